-- The merge says it all, and the child's store is given back as that of its package.
use Rattle.std.proofs.Common.{◌≡◌, refl, subst, sym, ap, ◌∙◌, arith, [], Some, Ok}
use Rattle.sheet_types.specs.declared.receipt.Receipt.{Receipt}
use Rattle.world_changes.specs.Carries.{Carries, OfEachDue}
use Rattle.world_loans.specs.Loans.{IsReturned}
use Rattle.world.specs.Asked.{ComeHome, HasUuidAt, IsNoPackage, child_returned}
use Rattle.world.specs.Dates.{DatesHome}
use Rattle.world.proofs.Asks.{none_home}
use Rattle.package_tables.specs.declared.fault.Fault.TheVariants.{StoreFault}
use Rattle.register_lending.specs.declared.turn_fault.TurnFault.TheVariants.{Before}
use Rattle.world_loans.specs.declared.loans.ServeFault.TheVariants.{Turn}
use Rattle.world_members.proofs.Standing.{all_still}
use Rattle.world.proofs.CarriedOut.{carries_returned, carries_unbegun, carries_unreturned, comes_home, home_written}
use Rattle.world_changes.specs.Writing.{WritesTwoAtMost}
use Rattle.world_changes.proofs.Writing.{none_written, one_written}
use Rattle.world_decisions.specs.Deciding.{child_asked}
use Rattle.world.proofs.ChangesMade.{turned_into}
use Rattle.world.proofs.Dated.{home_of, unreceived}
use Rattle.world.proofs.ServedAll.{counts_turn}
use Rattle.world.proofs.applying.carry_out_merge.Goals as goal

pub child_at-requires : goal.child_at-requires
child_at-requires g c = rw c.as_slice.ensures.value c.requires.place.from

pub returns-in_default-clause-carries : goal.returns-in_default-clause-carries
returns-in_default-clause-carries g c =
    let made = carries_unbegun g.S.Store g.met.S.Store.shut_if_dirty g.met.S.Store.settled
    (λ w next. IsReturned w next c.args.due) c.args.due.receipt c.args.members.now.items
    c.args.members.now.items [] c.args.count.now (Turn (Before StoreFault)) refl c.requires.rests
    c.requires.rests
    (all_still g.S.Store g.met.S.Store.shut_if_dirty g.met.S.Store.settled c.args.members.now.items c.requires.rests)
    tt in (
      made,
      none_home g.S.Store g.H.Shelf.takes c.args.members.now.items
          (λ uuid. (child_returned c.args.command.now ≡ Some uuid)
          × OfEachDue g.S.Store (λ w next. IsReturned w next c.args.due) c.args.members.now.items c.args.count.now
          (λ w next. IsNoPackage next uuid)) made.gone c.args.shelf.now (made.kept _ refl),
      subst (WritesTwoAtMost g.S.Store (child_asked c.args.command.now) (child_returned c.args.command.now)
          c.args.members.now.items c.args.members.now.items) (sym (made.kept _ refl))
          (none_written g.S.Store (child_asked c.args.command.now) (child_returned c.args.command.now)
          c.args.members.now.items c.args.members.now.items
          (all_still g.S.Store g.met.S.Store.shut_if_dirty g.met.S.Store.settled c.args.members.now.items
          c.requires.rests)),
      λ receipt is. absurd (let e = is in cc),
    )

pub returns-in_default-clause-shelf : goal.returns-in_default-clause-shelf
returns-in_default-clause-shelf g c = refl

pub returns-clause-carries : goal.returns-clause-carries
returns-clause-carries g c =
    let made = carries_returned g.S.Store g.met.S.Store.shut_if_dirty g.met.S.Store.settled c.args.due
    c.args.members.now.items c.merge_at.new.members.items c.args.count.now _ c.in_ok-receipt.receipt
    c.in_ok-receipt.child (ap (λ (r : Receipt). r.seq) (c.in_ok-receipt.ensures.merges.done _ refl).0
    ∙ c.requires.place.number) c.in_ok-receipt.ensures.merges in
    let has : HasUuidAt c.args.members.now.items c.args.due.from c.in-Some.uuid =
    subst (λ ms. HasUuidAt ms c.args.due.from c.in-Some.uuid) c.as_slice.ensures.value c.in-Some.ensures.0 in (
      made.0,
      subst (λ gone. ComeHome g.S.Store g.H.Shelf.takes c.args.members.now.items
          (λ uuid. (child_returned c.args.command.now ≡ Some uuid)
          × OfEachDue g.S.Store (λ w next. IsReturned w next c.args.due) c.args.members.now.items c.args.count.now
          (λ w next. IsNoPackage next uuid)) gone c.args.shelf.now c.retire.new.self) (sym made.1)
          (comes_home g.S.Store g.met.S.Store.shut_if_dirty g.met.S.Store.settled c.args.due c.args.members.now.items
          c.merge_at.new.members.items c.args.count.now g.H.Shelf.takes c.in_ok-receipt.child c.args.command.now
          c.in-Some.uuid c.args.shelf.now c.retire.new.self (c.in_ok-receipt.ensures.merges.home _ refl) has
          c.in-Some.ensures.1 (c.into_store.result, c.into_store.ensures.quiet, c.retire.ensures.takes)),
      subst (WritesTwoAtMost g.S.Store (child_asked c.args.command.now) (child_returned c.args.command.now)
          c.args.members.now.items c.merge_at.new.members.items) (sym made.1)
          (home_written g.S.Store g.met.S.Store.shut_if_dirty g.met.S.Store.settled c.args.due
          c.args.members.now.items c.merge_at.new.members.items c.args.count.now c.in_ok-receipt.receipt
          c.in_ok-receipt.child c.args.command.now c.in-Some.uuid c.in_ok-receipt.ensures.merges has
          c.in-Some.ensures.1),
      subst (λ gone. DatesHome g.S.Store c.args.due c.args.command.now c.args.members.now.items
          c.merge_at.new.members.items c.args.count.now gone (Ok c.in_ok-receipt.receipt)) (sym made.1)
          (λ receipt is clean gone w next are home. (
            home_of g.S.Store c.args.due c.args.members.now.items c.args.count.now c.in-Some.uuid c.args.command.now
                has c.in-Some.ensures.1 w next are home,
            c.in_ok-receipt.ensures.dated w next c.args.count.now clean gone are home,
          )),
    )

pub returns-in_err-receipt-clause-carries : goal.returns-in_err-receipt-clause-carries
returns-in_err-receipt-clause-carries g c =
    let told = turned_into _ _ c.from_residual.ensures.1 in
    let made : Carries g.S.Store (λ w next. IsReturned w next c.args.due) c.args.due.receipt c.args.members.now.items
    c.merge_at.new.members.items [] c.args.count.now c.args.count.now c.from_residual.result =
    subst (Carries g.S.Store (λ w next. IsReturned w next c.args.due) c.args.due.receipt c.args.members.now.items
    c.merge_at.new.members.items [] c.args.count.now c.args.count.now) (sym told)
    (carries_unreturned g.S.Store g.met.S.Store.shut_if_dirty g.met.S.Store.settled c.args.due
    c.args.members.now.items c.merge_at.new.members.items c.args.count.now _ c.in_err-receipt.ensures.merges) in (
      made,
      none_home g.S.Store g.H.Shelf.takes c.args.members.now.items
          (λ uuid. (child_returned c.args.command.now ≡ Some uuid)
          × OfEachDue g.S.Store (λ w next. IsReturned w next c.args.due) c.args.members.now.items c.args.count.now
          (λ w next. IsNoPackage next uuid)) made.gone c.args.shelf.now (made.kept _ told),
      subst (WritesTwoAtMost g.S.Store (child_asked c.args.command.now) (child_returned c.args.command.now)
          c.args.members.now.items c.merge_at.new.members.items) (sym (made.kept _ told))
          (one_written g.S.Store (child_asked c.args.command.now) (child_returned c.args.command.now)
          c.args.members.now.items c.args.members.now.items
          (all_still g.S.Store g.met.S.Store.shut_if_dirty g.met.S.Store.settled c.args.members.now.items
          c.requires.rests)
          c.merge_at.new.members.items (c.in_err-receipt.ensures.merges.kept _ refl)),
      λ receipt is. absurd (unreceived _ _ _ told is),
    )

pub returns-clause-shorter : goal.returns-clause-shorter
returns-clause-shorter g c = omega (arith, (c.in_ok-receipt.ensures.merges.done _ refl).1)

pub returns-in_err-receipt-clause-shorter : goal.returns-in_err-receipt-clause-shorter
returns-in_err-receipt-clause-shorter g c = omega (arith, (c.in_err-receipt.ensures.merges.failed _ refl).0)

pub returns-in_err-receipt-clause-shelf : goal.returns-in_err-receipt-clause-shelf
returns-in_err-receipt-clause-shelf g c = counts_turn _ c.in_err-receipt.field-0.0 _
    (turned_into _ _ c.from_residual.ensures.1)

pub returns-clause-shelf : goal.returns-clause-shelf
returns-clause-shelf g c = c.retire.ensures.counts
