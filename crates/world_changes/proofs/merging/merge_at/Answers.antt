-- The parent took home or not.
use Rattle.std.proofs.Common.{◌≡◌, subst, sym, ap, Err, Some, slice_get, refl}
use Rattle.std.proofs.lemmas.Option.{slice_get_read}
use Rattle.world_changes.specs.Merges.{Merges}
use Rattle.register_lending.specs.declared.turn_fault.TurnFault.{TurnFault}
use Rattle.world_changes.proofs.Dated.{returned_dated}
use Rattle.world_changes.proofs.Returned.{merges_done, merges_failed}
use Rattle.world_changes.proofs.merging.merge_at.Goals as goal

pub returns-in-Ok-clause-merges : goal.returns-in-Ok-clause-merges
returns-in-Ok-clause-merges g c =
    let place : slice_get c.args.members.now.items c.args.due.from ≡ Some c.remove-child.result =
    slice_get_read _ _ _ _ refl c.requires.from c.remove-child.ensures.value in
    merges_done g.S.Store g.met.S.Store.shut_if_dirty g.met.S.Store.settled c.args.due c.args.members.now.items
    c.remove-child.result c.take_home_at.new.child c.take_home_at.new.members.items c.requires.rests place
    c.take_home_at.ensures.child c.requires.two {E = TurnFault}
    (rw (c.remove-child.ensures.items, c.place_without-into.ensures) at c.in-Ok.ensures.turned) c.in-Ok.ensures.opens

pub returns-in-Err-clause-merges : goal.returns-in-Err-clause-merges
returns-in-Err-clause-merges g c =
    let place : slice_get c.args.members.now.items c.args.due.from ≡ Some c.remove-child.result =
    slice_get_read _ _ _ _ refl c.requires.from c.remove-child.ensures.value in
    subst (λ ms. Merges g.S.Store c.args.due c.args.members.now.items ms (Err c.in-Err.why))
    (sym c.insert_reserved.ensures.items)
    (merges_failed g.S.Store g.met.S.Store.shut_if_dirty g.met.S.Store.settled c.args.due c.args.members.now.items
    c.remove-child.result c.take_home_at.new.child c.take_home_at.new.members.items c.requires.rests place
    c.take_home_at.ensures.child c.requires.two c.in-Err.why
    (rw (c.remove-child.ensures.items, c.place_without-into.ensures) at c.in-Err.ensures.turned)
    (λ fault is. rw c.remove-child.ensures.items at (c.in-Err.ensures.unharmed fault (ap Err is))))

pub returns-in-Ok-clause-dated : goal.returns-in-Ok-clause-dated
returns-in-Ok-clause-dated g c =
    let place : slice_get c.args.members.now.items c.args.due.from ≡ Some c.remove-child.result =
    slice_get_read _ _ _ _ refl c.requires.from c.remove-child.ensures.value in
    returned_dated g.S.Store {E = TurnFault} c.args.due c.args.members.now.items c.remove-child.result
    c.take_home_at.new.child c.take_home_at.new.members.items place c.take_home_at.ensures.child c.requires.two
    (rw (c.remove-child.ensures.items, c.place_without-into.ensures) at c.in-Ok.ensures.turned) c.in-Ok.ensures.opens
