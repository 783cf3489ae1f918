-- Room is made, the child's store is filled, and then the parent lends.
use Rattle.std.proofs.Common.{◌≡◌, inl, refl, subst, sym, ap, ◌∙◌, arith, [], length, vec_len, None, Some}
use Rattle.std.proofs.Common.{Ok, Err}
use Rattle.sheet_types.specs.declared.receipt.Receipt.{Receipt}
use Rattle.world_changes.specs.Carries.{Carries}
use Rattle.world_loans.specs.Loans.{IsLent}
use Rattle.world_members.specs.Members.{AllOpen, AllClean, AllStay, AreMembers}
use Rattle.world_changes.specs.Splits.{Splits, member_of_child}
use Rattle.register_lending.specs.declared.turn_fault.TurnFault.TheVariants.{Before}
use Rattle.world_loans.specs.declared.loans.ServeFault.TheVariants.{Turn}
use Rattle.world.specs.Asked.{UsesChild}
use Rattle.world_changes.specs.Giving.{AsksChild}
use Rattle.world_loans.specs.ServeFaults.{CountsShelf}
use Rattle.world.proofs.CarriedOut.{unkept, carries_unbegun, carries_lent, carries_unlent, child_beside}
use Rattle.world.proofs.Settled.{unfilled_back, unlent_back}
use Rattle.world.proofs.ChangesMade.{turned_into, unmade}
use Rattle.world_members.proofs.Standing.{all_still, stay_length, clean_before, members_stay}
use Rattle.world_changes.specs.Writing.{WritesTwoAtMost}
use Rattle.world_changes.proofs.Writing.{none_written, one_written, two_written}
use Rattle.world.proofs.applying.carry_out_split.Goals as goal

pub returns-in_err-make_room-clause-carries : goal.returns-in_err-make_room-clause-carries
returns-in_err-make_room-clause-carries g c = unkept g.S.Store (turned_into _ _ c.from_residual.ensures.1)
    (subst (Carries g.S.Store (λ w next. (c.args.frame.now ≡ w.frame) × IsLent w next c.args.due) c.args.due.receipt
    c.args.members.now.items c.make_room.new.members.items c.make_room.new.strays.items c.args.count.now
    c.args.count.now) (sym (turned_into _ _ c.from_residual.ensures.1))
    (subst (λ ms. Carries g.S.Store (λ w next. (c.args.frame.now ≡ w.frame) × IsLent w next c.args.due)
    c.args.due.receipt c.args.members.now.items ms c.make_room.new.strays.items c.args.count.now c.args.count.now
    (Err (Turn (Before c.in_err-make_room.field-0.0)))) (sym c.make_room.ensures.members)
    (carries_unbegun g.S.Store g.met.S.Store.shut_if_dirty g.met.S.Store.settled _ c.args.due.receipt
    c.args.members.now.items c.args.members.now.items c.make_room.new.strays.items c.args.count.now
    (Turn (Before c.in_err-make_room.field-0.0)) (c.make_room.ensures.strays ∙ c.requires.none) c.requires.rests
    c.requires.rests
    (all_still g.S.Store g.met.S.Store.shut_if_dirty g.met.S.Store.settled c.args.members.now.items c.requires.rests)
    tt)))

pub returns-in_err-child-clause-carries : goal.returns-in_err-child-clause-carries
returns-in_err-child-clause-carries g c =
    let stay : AllStay g.S.Store c.args.members.now.items c.child_store.new.members.items =
    subst (λ ms. AllStay g.S.Store ms c.child_store.new.members.items) c.make_room.ensures.members
    c.child_store.ensures.stay in
    unkept g.S.Store (turned_into _ _ c.from_residual-in_err-child.ensures.1)
    (subst (Carries g.S.Store (λ w next. (c.args.frame.now ≡ w.frame) × IsLent w next c.args.due)
    c.args.due.receipt c.args.members.now.items c.child_store.new.members.items c.make_room.new.strays.items
    c.args.count.now c.args.count.now) (sym (turned_into _ _ c.from_residual-in_err-child.ensures.1))
    (carries_unbegun g.S.Store g.met.S.Store.shut_if_dirty g.met.S.Store.settled _ c.args.due.receipt
    c.args.members.now.items c.child_store.new.members.items c.make_room.new.strays.items c.args.count.now _
    (c.make_room.ensures.strays ∙ c.requires.none) c.requires.rests c.child_store.ensures.rests stay
    c.in_err-child.ensures.early))

pub returns-in_err-child-clause-room : goal.returns-in_err-child-clause-room
returns-in_err-child-clause-room g c = omega (
  arith,
  c.make_room.ensures.still,
  stay_length g.S.Store _ _
      c.child_store.ensures.stay,
)

pub lend_and_place-requires-clause-at : goal.lend_and_place-requires-clause-at
lend_and_place-requires-clause-at g c = omega (
  arith,
  c.requires.place.at,
  ap length c.make_room.ensures.members,
  stay_length g.S.Store _ _ c.child_store.ensures.stay,
)

pub lend_and_place-requires-clause-child_at : goal.lend_and_place-requires-clause-child_at
lend_and_place-requires-clause-child_at g c = omega (
  arith,
  c.requires.place.child_at,
  ap length
      c.make_room.ensures.members,
  stay_length g.S.Store _ _ c.child_store.ensures.stay,
)

pub lend_and_place-requires-clause-room : goal.lend_and_place-requires-clause-room
lend_and_place-requires-clause-room g c =
    let long : length c.make_room.new.members.items ≡ vec_len c.make_room.new.members =
    omega (arith, c.make_room.new.members.ok.0) in
    let same : length c.child_store.new.members.items ≡ vec_len c.child_store.new.members =
    omega (arith, c.child_store.new.members.ok.0) in
    omega (
      arith,
      long,
      same,
      c.in_ok-make_room.ensures.member,
      c.child_store.ensures.capacity,
      stay_length g.S.Store
          _ _ c.child_store.ensures.stay,
    )

pub returns-in_err-receipt-clause-carries : goal.returns-in_err-receipt-clause-carries
returns-in_err-receipt-clause-carries g c =
    let stay : AllStay g.S.Store c.args.members.now.items c.child_store.new.members.items =
    subst (λ ms. AllStay g.S.Store ms c.child_store.new.members.items) c.make_room.ensures.members
    c.child_store.ensures.stay in
    unkept g.S.Store (turned_into _ _ c.from_residual-in_err-receipt.ensures.1)
    (subst (Carries g.S.Store (λ w next. (c.args.frame.now ≡ w.frame) × IsLent w next c.args.due)
    c.args.due.receipt c.args.members.now.items c.lend_and_place.new.members.items
    c.lend_and_place.new.strays.items c.args.count.now c.args.count.now)
    (sym (turned_into _ _ c.from_residual-in_err-receipt.ensures.1))
    (carries_unlent g.S.Store g.met.S.Store.shut_if_dirty g.met.S.Store.settled c.args.frame.now c.args.due
    c.in_ok-child.child c.args.members.now.items c.child_store.new.members.items
    c.lend_and_place.new.members.items c.lend_and_place.new.strays.items c.args.count.now c.requires.rests stay
    (λ clean was. c.in_ok-child.ensures.opens clean (subst (AllOpen g.S.Store) (sym c.make_room.ensures.members) was))
    c.in_ok-child.ensures.child c.in_ok-child.ensures.is_open
    (λ clean w next count same are lent. c.in_ok-child.ensures.keeps clean w next count same
    (subst (λ ms. AreMembers g.S.Store ms count w) (sym c.make_room.ensures.members) are) lent)
    c.in_err-receipt.field-0.0
    (subst (λ ss. Splits g.S.Store c.args.due c.in_ok-child.child c.child_store.new.members.items
    c.lend_and_place.new.members.items ss c.lend_and_place.new.strays.items (Err c.in_err-receipt.field-0.0))
    (c.make_room.ensures.strays ∙ c.requires.none) c.in_err-receipt.ensures.splits)))

pub returns-clause-carries : goal.returns-clause-carries
returns-clause-carries g c =
    let stay : AllStay g.S.Store c.args.members.now.items c.child_store.new.members.items =
    subst (λ ms. AllStay g.S.Store ms c.child_store.new.members.items) c.make_room.ensures.members
    c.child_store.ensures.stay in
    carries_lent g.S.Store g.met.S.Store.shut_if_dirty g.met.S.Store.settled c.args.frame.now c.args.due
    c.in_ok-child.child c.args.members.now.items c.child_store.new.members.items
    c.lend_and_place.new.members.items c.lend_and_place.new.strays.items c.args.count.now c.requires.rests stay
    (λ clean was. c.in_ok-child.ensures.opens clean (subst (AllOpen g.S.Store) (sym c.make_room.ensures.members) was))
    c.in_ok-child.ensures.child c.in_ok-child.ensures.is_open
    (λ clean w next count same are lent. c.in_ok-child.ensures.keeps clean w next count same
    (subst (λ ms. AreMembers g.S.Store ms count w) (sym c.make_room.ensures.members) are) lent) _
    c.in_ok-receipt.receipt
    (ap (λ (r : Receipt). r.seq) (c.in_ok-receipt.ensures.splits.done c.in_ok-receipt.receipt refl).0
    ∙ c.requires.place.number)
    (subst (λ ss. Splits g.S.Store c.args.due c.in_ok-child.child c.child_store.new.members.items
    c.lend_and_place.new.members.items ss c.lend_and_place.new.strays.items (Ok c.in_ok-receipt.receipt))
    (c.make_room.ensures.strays ∙ c.requires.none) c.in_ok-receipt.ensures.splits)

pub returns-in_err-receipt-clause-room : goal.returns-in_err-receipt-clause-room
returns-in_err-receipt-clause-room g c =
    let long : length c.make_room.new.members.items ≡ vec_len c.make_room.new.members =
    omega (arith, c.make_room.new.members.ok.0) in
    let strays : length c.make_room.new.strays.items ≡ vec_len c.make_room.new.strays =
    omega (arith, c.make_room.new.strays.ok.0) in
    omega (
      arith,
      long,
      strays,
      c.in_ok-make_room.ensures.stray,
      c.lend_and_place.ensures.stray_capacity,
      stay_length
          g.S.Store _ _ c.child_store.ensures.stay,
      (c.in_err-receipt.ensures.splits.failed _ refl).0,
      c.in_err-receipt.ensures.splits.few,
    )

pub returns-clause-room : goal.returns-clause-room
returns-clause-room g c =
    let long : length c.make_room.new.members.items ≡ vec_len c.make_room.new.members =
    omega (arith, c.make_room.new.members.ok.0) in
    let strays : length c.make_room.new.strays.items ≡ vec_len c.make_room.new.strays =
    omega (arith, c.make_room.new.strays.ok.0) in
    let none : length c.lend_and_place.new.strays.items ≡ length c.make_room.new.strays.items =
    ap length (c.in_ok-receipt.ensures.splits.done c.in_ok-receipt.receipt refl).1 in
    omega (
      arith,
      long,
      strays,
      none,
      c.in_ok-make_room.ensures.stray,
      c.lend_and_place.ensures.stray_capacity,
      stay_length g.S.Store _ _ c.child_store.ensures.stay,
      (c.in_ok-receipt.ensures.splits.done c.in_ok-receipt.receipt refl).2,
    )

pub returns-in_err-make_room-clause-clean : goal.returns-in_err-make_room-clause-clean
returns-in_err-make_room-clause-clean g c clean = subst (AllClean g.S.Store) c.make_room.ensures.members clean

pub returns-in_err-child-clause-clean : goal.returns-in_err-child-clause-clean
returns-in_err-child-clause-clean g c clean = subst (AllClean g.S.Store) c.make_room.ensures.members
    (clean_before g.S.Store _ _ c.child_store.ensures.stay clean)

pub returns-in_err-receipt-clause-clean : goal.returns-in_err-receipt-clause-clean
returns-in_err-receipt-clause-clean g c clean = subst (AllClean g.S.Store) c.make_room.ensures.members
    (clean_before g.S.Store _ _ c.child_store.ensures.stay (c.in_err-receipt.ensures.splits.clean clean))

pub returns-clause-clean : goal.returns-clause-clean
returns-clause-clean g c clean = subst (AllClean g.S.Store) c.make_room.ensures.members
    (clean_before g.S.Store _ _ c.child_store.ensures.stay (c.in_ok-receipt.ensures.splits.clean clean))

pub returns-in_err-make_room-clause-uses : goal.returns-in_err-make_room-clause-uses
returns-in_err-make_room-clause-uses g c =
    subst (λ r. UsesChild g.S.Store g.H.Shelf.asks g.H.Shelf.takes g.H.Shelf.failures_of c.args.frame.now c.args.due
    c.args.members.now.items c.make_room.new.members.items c.make_room.new.strays.items r c.args.shelf.now
    c.args.shelf.now) (sym (turned_into _ _ c.from_residual.ensures.1)) (inl refl)

pub returns-in_err-child-clause-uses : goal.returns-in_err-child-clause-uses
returns-in_err-child-clause-uses g c =
    subst (λ r. UsesChild g.S.Store g.H.Shelf.asks g.H.Shelf.takes g.H.Shelf.failures_of c.args.frame.now c.args.due
    c.args.members.now.items c.child_store.new.members.items c.make_room.new.strays.items r c.args.shelf.now
    c.child_store.new.shelf) (sym (turned_into _ _ c.from_residual-in_err-child.ensures.1))
    (unfilled_back g.S.Store g.H.Shelf.asks g.H.Shelf.takes g.H.Shelf.failures_of c.args.frame.now c.args.due
    c.args.members.now.items c.child_store.new.members.items c.make_room.new.strays.items c.in_err-child.field-0.0
    c.args.shelf.now c.child_store.new.shelf c.in_err-child.ensures.shelf
    (subst (λ ms. AsksChild g.S.Store g.H.Shelf.takes g.H.Shelf.asks c.args.frame.now c.args.due ms
    c.child_store.new.members.items (Err c.in_err-child.field-0.0) c.args.shelf.now c.child_store.new.shelf)
    c.make_room.ensures.members c.in_err-child.ensures.uses))

pub returns-in_err-receipt-clause-uses : goal.returns-in_err-receipt-clause-uses
returns-in_err-receipt-clause-uses g c =
    let stay : AllStay g.S.Store c.args.members.now.items c.child_store.new.members.items =
    subst (λ ms. AllStay g.S.Store ms c.child_store.new.members.items) c.make_room.ensures.members
    c.child_store.ensures.stay in
    let splits : Splits g.S.Store c.args.due c.in_ok-child.child c.child_store.new.members.items
    c.lend_and_place.new.members.items [] c.lend_and_place.new.strays.items (Err c.in_err-receipt.field-0.0) =
    subst (λ ss. Splits g.S.Store c.args.due c.in_ok-child.child c.child_store.new.members.items
    c.lend_and_place.new.members.items ss c.lend_and_place.new.strays.items (Err c.in_err-receipt.field-0.0))
    (c.make_room.ensures.strays ∙ c.requires.none) c.in_err-receipt.ensures.splits in
    subst (λ r. UsesChild g.S.Store g.H.Shelf.asks g.H.Shelf.takes g.H.Shelf.failures_of c.args.frame.now c.args.due
    c.args.members.now.items c.lend_and_place.new.members.items c.lend_and_place.new.strays.items r
    c.args.shelf.now c.lend_and_place.new.shelf) (sym (turned_into _ _ c.from_residual-in_err-receipt.ensures.1))
    (unlent_back g.S.Store g.H.Shelf.asks g.H.Shelf.takes g.H.Shelf.failures_of c.args.frame.now c.args.due
    c.args.members.now.items c.lend_and_place.new.members.items c.lend_and_place.new.strays.items
    c.in_ok-child.child c.in_err-receipt.field-0.0 c.args.shelf.now c.child_store.new.shelf
    c.lend_and_place.new.shelf c.in_ok-child.ensures.uses c.in_err-receipt.ensures.uses
    (child_beside g.S.Store g.met.S.Store.shut_if_dirty g.met.S.Store.settled c.args.frame.now c.args.due
    c.in_ok-child.child c.args.members.now.items c.child_store.new.members.items
    c.lend_and_place.new.members.items c.lend_and_place.new.strays.items c.args.count.now c.requires.rests stay
    (λ clean was. c.in_ok-child.ensures.opens clean (subst (AllOpen g.S.Store) (sym c.make_room.ensures.members) was))
    c.in_ok-child.ensures.child c.in_ok-child.ensures.is_open
    (λ clean w next count same are lent. c.in_ok-child.ensures.keeps clean w next count same
    (subst (λ ms. AreMembers g.S.Store ms count w) (sym c.make_room.ensures.members) are) lent)
    c.in_err-receipt.field-0.0 splits)
    (λ lasting. splits.kept c.in_err-receipt.field-0.0 refl lasting))

pub returns-clause-uses : goal.returns-clause-uses
returns-clause-uses g c = subst (λ t. g.H.Shelf.asks c.args.due.child c.args.shelf.now t)
    (sym c.in_ok-receipt.ensures.uses) c.in_ok-child.ensures.uses

pub returns-in_err-receipt-clause-shelf : goal.returns-in_err-receipt-clause-shelf
returns-in_err-receipt-clause-shelf g c = subst (λ r. CountsShelf r (g.H.Shelf.failures_of c.args.shelf.now)
    (g.H.Shelf.failures_of c.lend_and_place.new.shelf)) (sym
    (turned_into _ _ c.from_residual-in_err-receipt.ensures.1))
    (c.lend_and_place.ensures.shelf ∙ c.in_ok-child.ensures.shelf)

pub returns-clause-shelf : goal.returns-clause-shelf
returns-clause-shelf g c = c.lend_and_place.ensures.shelf ∙ c.in_ok-child.ensures.shelf

pub returns-in_err-make_room-clause-writes : goal.returns-in_err-make_room-clause-writes
returns-in_err-make_room-clause-writes g c =
    subst (λ ms. WritesTwoAtMost g.S.Store (Some c.args.due.child) None c.args.members.now.items ms [])
    (sym c.make_room.ensures.members)
    (none_written g.S.Store (Some c.args.due.child) None c.args.members.now.items c.args.members.now.items
    (all_still g.S.Store g.met.S.Store.shut_if_dirty g.met.S.Store.settled c.args.members.now.items
    c.requires.rests))

pub returns-in_err-child-clause-writes : goal.returns-in_err-child-clause-writes
returns-in_err-child-clause-writes g c =
    let stay : AllStay g.S.Store c.args.members.now.items c.child_store.new.members.items =
    subst (λ ms. AllStay g.S.Store ms c.child_store.new.members.items) c.make_room.ensures.members
    c.child_store.ensures.stay in
    none_written g.S.Store (Some c.args.due.child) None c.args.members.now.items c.child_store.new.members.items stay

pub returns-in_err-receipt-clause-writes : goal.returns-in_err-receipt-clause-writes
returns-in_err-receipt-clause-writes g c =
    let stay : AllStay g.S.Store c.args.members.now.items c.child_store.new.members.items =
    subst (λ ms. AllStay g.S.Store ms c.child_store.new.members.items) c.make_room.ensures.members
    c.child_store.ensures.stay in
    one_written g.S.Store (Some c.args.due.child) None c.args.members.now.items c.child_store.new.members.items stay
    c.lend_and_place.new.members.items (c.in_err-receipt.ensures.splits.others _ refl)

pub returns-clause-writes : goal.returns-clause-writes
returns-clause-writes g c =
    let stay : AllStay g.S.Store c.args.members.now.items c.child_store.new.members.items =
    subst (λ ms. AllStay g.S.Store ms c.child_store.new.members.items) c.make_room.ensures.members
    c.child_store.ensures.stay in
    let came = c.in_ok-receipt.ensures.splits.came c.in_ok-receipt.receipt refl in
    two_written g.S.Store (Some c.args.due.child) None c.args.members.now.items c.child_store.new.members.items stay
    came.0 c.lend_and_place.new.members.items c.args.due.child_at (member_of_child c.args.due c.in_ok-child.child)
    came.1 refl came.2

-- ---- the moment of the last change

pub returns-in_err-make_room-clause-dated : goal.returns-in_err-make_room-clause-dated
returns-in_err-make_room-clause-dated g c = unmade _ _ _ (turned_into _ _ c.from_residual.ensures.1)

pub returns-in_err-child-clause-dated : goal.returns-in_err-child-clause-dated
returns-in_err-child-clause-dated g c = unmade _ _ _ (turned_into _ _ c.from_residual-in_err-child.ensures.1)

pub returns-in_err-receipt-clause-dated : goal.returns-in_err-receipt-clause-dated
returns-in_err-receipt-clause-dated g c = unmade _ _ _ (turned_into _ _ c.from_residual-in_err-receipt.ensures.1)

pub returns-clause-dated : goal.returns-clause-dated
returns-clause-dated g c = λ clean w next same are lent.
    let were : AreMembers g.S.Store c.make_room.new.members.items c.args.count.now w =
    subst (λ ms. AreMembers g.S.Store ms c.args.count.now w) (sym c.make_room.ensures.members) are in
    c.in_ok-receipt.ensures.dated w next c.args.count.now clean
    (members_stay g.S.Store _ _ c.args.count.now w c.child_store.ensures.stay were) lent
    (c.in_ok-child.ensures.dated (c.in_ok-receipt.ensures.splits.clean clean) w next c.args.count.now same were lent)
