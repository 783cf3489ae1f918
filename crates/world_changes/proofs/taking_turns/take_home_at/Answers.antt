-- The store of the member at the place takes the turn.
use Rattle.std.proofs.Common.{◌≡◌, Some, slice_get, refl, ap, Err}
use Rattle.std.proofs.lemmas.Option.{slice_get_read}
use Rattle.sqlite.specs.Held.{state}
use Rattle.register_lending.specs.Lending.{TakesHome}
use Rattle.custody.specs.Homing.{FromClean}
use Rattle.world_changes.proofs.Turned.{turn_failed, leaves_no_more}
use Rattle.register_lending.proofs.WritingLoans.{same_error}
use Rattle.world_changes.proofs.taking_turns.take_home_at.Goals as goal

pub returns-in_err-take_home-clause-turned : goal.returns-in_err-take_home-clause-turned
returns-in_err-take_home-clause-turned g c =
    let place : slice_get c.args.members.now.items c.args.at ≡ Some c.index_mut-member.result.now =
    slice_get_read _ _ _ _ refl c.requires.within c.index_mut-member.ensures.value in
    turn_failed g.S.Store (FromClean (state g.S.Store c.take_home.new.child)
    (TakesHome c.args.due.now.receipt c.args.due.now.selection (state g.S.Store c.args.child.now).now))
    c.args.due.now.sums c.args.due.now.receipt.seq c.args.members.now.items c.args.at
    c.index_mut-member.result.now
    c.take_home.new.conn _ c.from_residual.result c.from_residual.ensures.0 place c.in_err-take_home.ensures.turns
    c.in_err-take_home.ensures.was_open

pub returns-in_err-take_home-clause-unharmed : goal.returns-in_err-take_home-clause-unharmed
returns-in_err-take_home-clause-unharmed g c fault is =
    let place : slice_get c.args.members.now.items c.args.at ≡ Some c.index_mut-member.result.now =
    slice_get_read _ _ _ _ refl c.requires.within c.index_mut-member.ensures.value in
    leaves_no_more g.S.Store c.args.members.now.items c.args.at c.index_mut-member.result.now c.take_home.new.conn
    place (c.in_err-take_home.ensures.unharmed fault (ap Err (same_error _ _ fault c.from_residual.ensures.1 is)))

pub returns-clause-turned : goal.returns-clause-turned
returns-clause-turned g c =
    let place : slice_get c.args.members.now.items c.args.at ≡ Some c.index_mut-member.result.now =
    slice_get_read _ _ _ _ refl c.requires.within c.index_mut-member.ensures.value in
    record {
      was = c.index_mut-member.result.now;
      place = place;
      last = c.take_home.new.conn;
      others = refl;
      turns = c.in_ok-take_home.ensures.turns;
      was_open = c.in_ok-take_home.ensures.was_open;
    }
