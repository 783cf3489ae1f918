use Rattle.std.proofs.Common.{FitsSigned, w64, rules}
use Rattle.std.proofs.lemmas.Int.{to_z-of_z}
use Rattle.view_map.proofs.Finest.{small_by_layout}
use Rattle.view_map.proofs.zooms.is_small.Goals as goal

pub returns : goal.returns
returns c =
    let fits : FitsSigned w64 c.zoom_at-zoom.result = search rules in
    rw (c.from.ensures, c.from-2.ensures)
    (small_by_layout c.args.frame.now c.args.level c.zoom_at-zoom.result c.layout_of-layout.result
    (simp to_z-of_z at c.layout_of-layout.ensures.layout) c.zoom_at-zoom.ensures.zoom)
