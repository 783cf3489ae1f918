-- One number after the other.
use Rattle.std.proofs.Common.{◌≡◌, ◌∙◌, ◌≤◌, ◌<◌, ap, sym, is_ok, length, refl, arith, take, map}
use Rattle.std.proofs.ResultArms.{chosen}
use Rattle.std.proofs.lemmas.List.{take_all}
use Rattle.view_history.specs.Told.{ledger_of, moment_of}
use Rattle.view_history.proofs.Asked.{asks_still, asks_both, asks_cut, asks_then}
use Rattle.view_history.proofs.Dates.{map_next}
use Rattle.view_history.proofs.moments.moments_of.Goals as goal

pub loop-at-init : goal.loop-at-init
loop-at-init g c = record {
  asked = asks_still g.S.Store g.met.S.Store.shut_if_dirty g.met.S.Store.settled c.requires
      (λ packages. c.new-moments.ensures.items);
}

pub returns-in_err-moment : goal.returns-in_err-moment
returns-in_err-moment g c = asks_cut g.S.Store _ _ c.from_residual.result c.from_residual.ensures.0
    c.loop-at.invariant.asked c.moment_of.ensures

pub returns-in_err-push : goal.returns-in_err-push
returns-in_err-push g c = asks_cut g.S.Store _ _ c.from_residual-in_err-push.result
    c.from_residual-in_err-push.ensures.0 c.loop-at.invariant.asked c.moment_of.ensures

pub loop-at-preserved : goal.loop-at-preserved
loop-at-preserved g c = record {
  asked = asks_both g.S.Store _ _ refl c.in_ok-moment.was
      (λ packages one two. chosen _ _ _ _ c.push.ensures.items (ap is_ok c.in_ok-push.was)
      ∙ map_next (moment_of (ledger_of packages)) c.args.numbers.now c.loop-at.at c.in_ok-moment.moment _
      c.loop-at-test.true one two) c.loop-at.invariant.asked c.moment_of.ensures;
}

pub returns : goal.returns
returns g c =
    let past : length c.args.numbers.now ≤ c.loop-at.at = omega (arith, c.loop-at-test.false) in
    asks_then g.S.Store _ refl (λ packages one. one ∙ ap (map (moment_of (ledger_of packages)))
    (take_all c.loop-at.at c.args.numbers.now past)) c.loop-at.invariant.asked
