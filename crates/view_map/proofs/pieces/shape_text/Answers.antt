use Rattle.std.proofs.Common.{◌∙◌, ap}
use Rattle.view_map.specs.Pieces.{owner_text}
use Rattle.view_map.proofs.Texts.{three_joined}
use Rattle.view_map.proofs.pieces.shape_text.Goals as goal

pub returns : goal.returns
returns c =
    three_joined _ _ _ _ _ _ _ _ c.in_ok-text.ensures c.in_ok-push_str.ensures.bytes c.in_ok-push_str-2.ensures.bytes
    (c.as_str.ensures.value ∙ c.in_ok-owner.ensures ∙ ap (λ f. owner_text f c.args.sheet.now.uuid)
    c.colour.ensures)
    (c.as_str-2.ensures.value ∙ c.in_ok-place.ensures)
