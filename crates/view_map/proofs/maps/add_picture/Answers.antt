use Rattle.std.proofs.Common.{◌∙◌, [], ap}
use Rattle.view_map.specs.Pieces.{shapes_text}
use Rattle.view_map.specs.Sheets.{layered}
use Rattle.view_map.proofs.Drawing.{all_on_map}
use Rattle.view_map.proofs.Texts.{five_joined}
use Rattle.view_map.proofs.maps.add_picture.Goals as goal

pub add_shapes-requires-clause-places : goal.add_shapes-requires-clause-places
add_shapes-requires-clause-places c = rw (c.as_slice.ensures.value, c.in_ok-sheets.ensures)
    (all_on_map c.args.layout.now c.args.holders.now)

pub returns : goal.returns
returns c =
    five_joined _ _ _ _ _ _ _ _ _ _ _ c.in_ok-push_str.ensures.bytes c.in_ok-push_str-2.ensures.bytes
    c.in_ok-add_shapes.ensures c.in_ok-push_str-3.ensures.bytes c.in_ok-push_str-4.ensures.bytes
    (c.as_str.ensures.value ∙ c.in_ok-grid.ensures)
    (ap (λ ss. shapes_text c.args.layout.now c.args.zoom (layered c.args.layout.now [] ss))
    (c.as_slice.ensures.value ∙ c.in_ok-sheets.ensures))
    (c.as_str-2.ensures.value ∙ c.in_ok-outline.ensures)
