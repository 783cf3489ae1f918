-- One number after the other.
use Rattle.std.proofs.Common.{◌≤◌, ◌∙◌, ap, is_ok, length, arith, inl, refl, map}
use Rattle.std.proofs.ResultArms.{chosen}
use Rattle.std.proofs.lemmas.List.{take_all}
use Rattle.sheet_types.specs.World.{receipts_of}
use Rattle.view_history.specs.Told.{moment_of}
use Rattle.view_history.proofs.Dates.{map_next}
use Rattle.view_world.proofs.Looked.{looked_clean, looked_stands, looked_then}
use Rattle.view_world.proofs.packages.moments_in.Goals as goal

pub loop-at-init : goal.loop-at-init
loop-at-init g c = record {
  read = inl refl;
  opens = λ clean was_open. was_open;
  told = λ clean w stands. c.new-moments.ensures.items;
}

pub returns-in_err-moment-clause-read : goal.returns-in_err-moment-clause-read
returns-in_err-moment-clause-read g c =
    looked_then g.S.Store c.args.world.now c.loop-at.world c.moment_in.new.world c.loop-at.invariant.read
    c.in_err-moment.ensures.read

pub returns-in_err-push-clause-read : goal.returns-in_err-push-clause-read
returns-in_err-push-clause-read g c =
    looked_then g.S.Store c.args.world.now c.loop-at.world c.moment_in.new.world c.loop-at.invariant.read
    c.in_ok-moment.ensures.read

pub loop-at-preserved : goal.loop-at-preserved
loop-at-preserved g c = record {
  read = looked_then g.S.Store c.args.world.now c.loop-at.world c.moment_in.new.world c.loop-at.invariant.read
      c.in_ok-moment.ensures.read;
  opens = λ clean was_open. c.in_ok-moment.ensures.opens clean (c.loop-at.invariant.opens
      (looked_clean g.S.Store c.loop-at.world c.moment_in.new.world c.in_ok-moment.ensures.read clean) was_open);
  told = λ clean w stands.
      let before = looked_clean g.S.Store c.loop-at.world c.moment_in.new.world c.in_ok-moment.ensures.read clean in
      let now = looked_stands g.S.Store c.args.world.now c.loop-at.world c.loop-at.invariant.read w stands in
      chosen _ _ _ _ c.push.ensures.items (ap is_ok c.in_ok-push.was)
      ∙ map_next (moment_of (receipts_of w)) c.args.numbers.now c.loop-at.at c.in_ok-moment.moment _
      c.loop-at-test.true (c.loop-at.invariant.told before w stands) (c.in_ok-moment.ensures.told clean w now);
}

pub returns-clause-told : goal.returns-clause-told
returns-clause-told g c = λ clean w stands.
    let past : length c.args.numbers.now ≤ c.loop-at.at = omega (arith, c.loop-at-test.false) in
    c.loop-at.invariant.told clean w stands
    ∙ ap (map (moment_of (receipts_of w))) (take_all c.loop-at.at c.args.numbers.now past)

pub returns-clause-opens : goal.returns-clause-opens
returns-clause-opens g c = c.loop-at.invariant.opens
