-- The parent lent or not.
use Rattle.std.proofs.Common.{subst, sym, ap, ◌∙◌, ℕ, [], ◌∷◌, Ok, Err}
use Rattle.sheet_types.specs.World.{World}
use Rattle.world_loans.specs.Loans.{IsLent}
use Rattle.world_members.specs.Members.{AllClean, AreMembers}
use Rattle.std.specs.List.{insert}
use Rattle.world_changes.specs.Dating.{AreDated, IsDated}
use Rattle.world_changes.specs.Splits.{Splits}
use Rattle.register_lending.specs.declared.turn_fault.TurnFault.{TurnFault}
use Rattle.world_changes.proofs.Dated.{lent_dated}
use Rattle.world_changes.proofs.Lent.{splits_done, splits_failed}
use Rattle.world_changes.proofs.splitting.lend_and_place.Goals as goal

pub returns-in-Ok-clause-splits : goal.returns-in-Ok-clause-splits
returns-in-Ok-clause-splits g c =
    subst (λ ms. Splits g.S.Store c.args.due c.args.child c.args.members.now.items ms c.args.strays.now.items
    c.args.strays.now.items (Ok c.args.due.receipt))
    (sym (c.insert_reserved.ensures.items ∙ ap (insert c.lend_at.new.members.items c.args.due.child_at)
    c.child_member-member.ensures))
    (splits_done g.S.Store g.met.S.Store.shut_if_dirty g.met.S.Store.settled c.args.due c.args.child
    c.args.members.now.items c.lend_at.new.members.items c.args.strays.now.items c.requires.rests c.requires.child
    {E = TurnFault} c.in-Ok.ensures.turned)

pub returns-in-Err-clause-splits : goal.returns-in-Err-clause-splits
returns-in-Err-clause-splits g c =
    splits_failed g.S.Store g.met.S.Store.shut_if_dirty g.met.S.Store.settled c.args.due c.args.child
    c.args.members.now.items c.lend_at.new.members.items c.args.strays.now.items c.requires.rests c.requires.child
    c.in-Err.why c.in-Err.ensures.turned c.args.strays.now.items c.keep_or_return.new.strays.items
    c.keep_or_return.ensures.kept c.keep_or_return.ensures.dropped
    (λ fault is. c.in-Err.ensures.unharmed fault (ap Err is))

pub returns-in-Ok-clause-dated : goal.returns-in-Ok-clause-dated
returns-in-Ok-clause-dated g c =
    subst (λ ms. (w next : World) (count : ℕ) → AllClean g.S.Store ms
    → AreMembers g.S.Store c.args.members.now.items count w → IsLent w next c.args.due
    → IsDated g.S.Store w.frame c.args.due.receipt.at c.args.child
    → AreDated g.S.Store w.frame c.args.due.receipt.at (c.args.due.parent ∷ c.args.due.child ∷ []) ms)
    (sym (c.insert_reserved.ensures.items ∙ ap (insert c.lend_at.new.members.items c.args.due.child_at)
    c.child_member-member.ensures))
    (lent_dated g.S.Store {E = TurnFault} c.args.due c.args.child c.args.members.now.items
    c.lend_at.new.members.items c.in-Ok.ensures.turned)
