-- One more.
use Rattle.std.proofs.Common.{ap, subst, sym, is_ok, take, ◌+◌}
use Rattle.std.specs.List.{AllZip}
use Rattle.std.proofs.ResultArms.{chosen}
use Rattle.opening_verdict.specs.Tallies.{TellsSums}
use Rattle.opening_verdict.proofs.Lists.{zip_more, zip_done}
use Rattle.opening_verdict.proofs.tallying.all_sums.Goals as goal

pub loop-sight-preserved : goal.loop-sight-preserved
loop-sight-preserved c =
    subst (AllZip TellsSums (take (c.loop-sight.sight-index + 1) c.args.held.now))
    (sym (chosen _ _ _ _ c.push.ensures.items (ap is_ok c.in_ok-push.was)))
    (zip_more TellsSums c.args.held.now c.loop-sight.sight-index c.sight-item.result c.loop-sight.all.items
    c.sums_of.result c.loop-sight-test.true c.sight-item.is c.loop-sight.invariant c.sums_of.ensures)
