-- One package more was asked, and what it holds stands behind the rest.
use Rattle.std.proofs.Common.{subst, arith}
use Rattle.std.proofs.lemmas.List.{take_all}
use Rattle.command_requests.proofs.Untouched.{stands_after, untouched_then}
use Rattle.world.specs.declared.reading.PackageSight.{PackageSight}
use Rattle.view_page.proofs.Holding.{more_held}
use Rattle.view_page.specs.Registers.{AreContents}
use Rattle.view_page.proofs.contents.contents_among.Goals as goal

pub returns-in_err-more-clause-read : goal.returns-in_err-more-clause-read
returns-in_err-more-clause-read g c =
    untouched_then g.S.Store c.args.world.now c.loop-sight.world c.contents_in.new.world c.loop-sight.invariant.read
    c.in_err-more.ensures.read

pub returns-in_err-append-clause-read : goal.returns-in_err-append-clause-read
returns-in_err-append-clause-read g c =
    untouched_then g.S.Store c.args.world.now c.loop-sight.world c.contents_in.new.world c.loop-sight.invariant.read
    c.in_ok-more.ensures.read

pub loop-sight-preserved : goal.loop-sight-preserved
loop-sight-preserved g c = record {
  read = untouched_then g.S.Store c.args.world.now c.loop-sight.world c.contents_in.new.world
      c.loop-sight.invariant.read c.in_ok-more.ensures.read;
  told = λ clean w stands.
      let before = c.in_ok-more.ensures.read.clean clean in
      let now = stands_after g.S.Store c.args.world.now c.loop-sight.world c.loop-sight.invariant.read w stands in
      more_held w c.args.sights.now c.loop-sight.sight-index c.sight-item.result c.loop-sight.all c.in_ok-more.more
      c.append.new.all c.loop-sight-test.true c.sight-item.is
      (c.loop-sight.invariant.told before w stands) (c.in_ok-more.ensures.told clean w now)
      (rw c.in_ok-append.was at c.append.ensures.things) (rw c.in_ok-append.was at c.append.ensures.ties);
}

pub returns-clause-told : goal.returns-clause-told
returns-clause-told g c = λ clean w stands.
    subst (λ l. AreContents w (λ (s : PackageSight). s.uuid) l c.loop-sight.all)
    (take_all c.loop-sight.sight-index c.args.sights.now (omega (arith, c.loop-sight-test.false)))
    (c.loop-sight.invariant.told clean w stands)
