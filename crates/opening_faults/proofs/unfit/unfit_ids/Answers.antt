-- One place more.
use Rattle.std.proofs.Common.{[], ◌<◌, ◌≤◌, length, arith}
use Rattle.opening_faults.proofs.Unfitting.{unfit_more, unfit_all}
use Rattle.opening_faults.proofs.unfit.unfit_ids.Goals as goal

pub loop-place-preserved : goal.loop-place-preserved
loop-place-preserved c =
    let i = c.loop-place.place in
    let s = c.index-sights-place.result in
    let lt : i < length c.args.sights.now = omega arith in
    unfit_more c.args.live.now c.args.fit.now c.args.sights.now i s c.is_unfit.result [] c.loop-place.ids.items
    c.push_unfit.new.ids.items lt c.index-sights-place.is c.is_unfit.ensures c.loop-place.invariant
    c.in_ok-push_unfit.ensures

pub returns : goal.returns
returns c =
    let all : length c.args.sights.now ≤ c.loop-place.place = omega arith in
    unfit_all c.args.live.now c.args.fit.now c.args.sights.now c.loop-place.place c.loop-place.ids.items all
    c.loop-place.invariant
