-- One package more was asked, and what is drawn of it is gathered.
use Rattle.std.proofs.Common.{◌+◌, ap, is_ok, subst, sym, take, take_all, to_z-of_z}
use Rattle.std.proofs.ResultArms.{chosen}
use Rattle.std.specs.List.{AllZip}
use Rattle.views.proofs.Gathered.{IsDrawn, all_drawn, one_more}
use Rattle.views.proofs.Untouched.{stands_after, untouched_then}
use Rattle.views.proofs.gathering.holders_among.Goals as goal

pub returns-in_err-holder-clause-read : goal.returns-in_err-holder-clause-read
returns-in_err-holder-clause-read g c =
    untouched_then g.S.Store c.args.world.now c.loop-sight.world c.holder_of.new.world c.loop-sight.invariant.read
    c.in_err-holder.ensures.read

pub returns-in_err-push-clause-read : goal.returns-in_err-push-clause-read
returns-in_err-push-clause-read g c =
    untouched_then g.S.Store c.args.world.now c.loop-sight.world c.holder_of.new.world c.loop-sight.invariant.read
    c.in_ok-holder.ensures.read

pub loop-sight-preserved : goal.loop-sight-preserved
loop-sight-preserved g c = record {
  read = untouched_then g.S.Store c.args.world.now c.loop-sight.world c.holder_of.new.world
      c.loop-sight.invariant.read c.in_ok-holder.ensures.read;
  opens = λ clean was_open. c.in_ok-holder.ensures.opens clean
      (c.loop-sight.invariant.opens (c.in_ok-holder.ensures.read.clean clean) was_open);
  drawn = λ clean w stands.
      let before = c.in_ok-holder.ensures.read.clean clean in
      let now = stands_after g.S.Store c.args.world.now c.loop-sight.world c.loop-sight.invariant.read w stands in
      let so_far = simp (to_z-of_z, c.ranges.zoom) at c.loop-sight.invariant.drawn before w stands in
      let here = simp (to_z-of_z, c.ranges.zoom) at c.in_ok-holder.ensures.told clean w now in
      let more = one_more w c.args.zoom c.args.sights.now c.loop-sight.holders.items c.loop-sight.sight-index
      c.sight-item.result c.in_ok-holder.holder c.loop-sight-test.true c.sight-item.is so_far here in
      simp (to_z-of_z, c.ranges.zoom) (subst (λ hs. AllZip (IsDrawn w c.args.zoom)
      (take (c.loop-sight.sight-index + 1) c.args.sights.now) hs)
      (sym (chosen _ _ _ _ c.push.ensures.items (ap is_ok c.in_ok-push.was))) more);
}

pub returns-clause-told : goal.returns-clause-told
returns-clause-told g c = λ clean w stands.
    let each = simp (to_z-of_z, c.ranges.zoom) at c.loop-sight.invariant.drawn clean w stands in
    all_drawn w c.args.zoom c.args.sights.now c.loop-sight.holders.items
    (subst (λ l. AllZip (IsDrawn w c.args.zoom) l c.loop-sight.holders.items)
    (take_all c.loop-sight.sight-index c.args.sights.now c.loop-sight-test.false) each)

pub returns-clause-opens : goal.returns-clause-opens
returns-clause-opens g c = c.loop-sight.invariant.opens
