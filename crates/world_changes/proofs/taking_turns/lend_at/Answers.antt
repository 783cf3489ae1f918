-- The store of the member at the place takes the turn.
use Rattle.std.proofs.Common.{◌≡◌, Some, slice_get, refl, ap, Err}
use Rattle.std.proofs.lemmas.Option.{slice_get_read}
use Rattle.register_lending.specs.Lending.{Lends}
use Rattle.world_members.proofs.Changing.{unharmed_at}
use Rattle.world_changes.proofs.Turned.{turn_failed}
use Rattle.register_lending.proofs.WritingLoans.{same_error}
use Rattle.world_changes.proofs.taking_turns.lend_at.Goals as goal

pub returns-in_err-lend-clause-turned : goal.returns-in_err-lend-clause-turned
returns-in_err-lend-clause-turned g c =
    let place : slice_get c.args.members.now.items c.args.due.now.at ≡ Some c.index_mut-member.result.now =
    slice_get_read _ _ _ _ refl c.requires.within c.index_mut-member.ensures.value in
    turn_failed g.S.Store (Lends c.args.due.now.receipt c.args.due.now.selection) c.args.due.now.left
    c.args.due.now.receipt.seq c.args.members.now.items c.args.due.now.at c.index_mut-member.result.now
    c.lend.new.conn _ c.from_residual.result c.from_residual.ensures.0 place
    c.in_err-lend.ensures.turns c.in_err-lend.ensures.was_open

pub returns-in_err-lend-clause-unharmed : goal.returns-in_err-lend-clause-unharmed
returns-in_err-lend-clause-unharmed g c fault is =
    let place : slice_get c.args.members.now.items c.args.due.now.at ≡ Some c.index_mut-member.result.now =
    slice_get_read _ _ _ _ refl c.requires.within c.index_mut-member.ensures.value in
    unharmed_at g.S.Store g.met.S.Store.shut_if_dirty g.met.S.Store.settled c.args.members.now.items c.args.due.now.at
    c.index_mut-member.result.now c.lend.new.conn place c.requires.rests
    (c.in_err-lend.ensures.unharmed fault (ap Err (same_error _ _ fault c.from_residual.ensures.1 is)))

pub returns-clause-turned : goal.returns-clause-turned
returns-clause-turned g c =
    let place : slice_get c.args.members.now.items c.args.due.now.at ≡ Some c.index_mut-member.result.now =
    slice_get_read _ _ _ _ refl c.requires.within c.index_mut-member.ensures.value in
    record {
      was = c.index_mut-member.result.now;
      place = place;
      last = c.lend.new.conn;
      others = refl;
      turns = c.in_ok-lend.ensures.turns;
      was_open = c.in_ok-lend.ensures.was_open;
    }
