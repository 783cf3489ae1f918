use Rattle.std.proofs.Common.{◌∙◌, ap}
use Rattle.std.proofs.lemmas.Int.{to_z-of_z}
use Rattle.view_map.specs.Layout.{layout_of}
use Rattle.view_map.specs.Maps.{map_of}
use Rattle.view_map.proofs.Texts.{four_joined}
use Rattle.view_map.proofs.maps.map_text.Goals as goal

pub returns : goal.returns
returns c =
    let zoom = c.ranges.zoom in
    four_joined _ _ _ _ _ _ _ _ c.in_ok-text.ensures c.in_ok-add_picture.ensures c.in_ok-add_legend.ensures
    c.in_ok-push_str.ensures.bytes
    ∙ ap (λ l. map_of l c.unsigned_abs-number.result c.args.holders.now)
    (simp to_z-of_z at c.layout_of-layout.ensures.layout)
    ∙ ap (λ n. map_of (layout_of c.args.frame.now c.args.zoom) n c.args.holders.now)
    (simp to_z-of_z at c.unsigned_abs-number.ensures.value)
