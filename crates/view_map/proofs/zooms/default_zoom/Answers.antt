use Rattle.std.proofs.Common.{◌<◌, arith}
use Rattle.matrix_rules.proofs.Frames.{good_frame}
use Rattle.view_map.proofs.Finest.{some_levels}
use Rattle.view_map.proofs.zooms.default_zoom.Goals as goal

pub zoom_at-requires-clause-level : goal.zoom_at-requires-clause-level
zoom_at-requires-clause-level c =
    let good = good_frame c.args.frame.now c.requires in
    let some : 0 < c.level_count-count.result = rw c.level_count-count.ensures
    (some_levels c.args.frame.now.levels good.levels) in
    let below : c.finest_small-level.result < c.level_count-count.result = c.finest_small-level.ensures.below some in
    omega (arith, below, c.level_count-count.ensures)
