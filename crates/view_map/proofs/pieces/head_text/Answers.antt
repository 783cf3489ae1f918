use Rattle.std.proofs.Common.{◌∙◌, ap}
use Rattle.view_map.specs.Pieces.{page_text, page_width}
use Rattle.view_map.proofs.Texts.{two_joined}
use Rattle.view_map.proofs.pieces.head_text.Goals as goal

pub returns : goal.returns
returns c =
    two_joined _ _ _ _ _ (c.in_ok-text.ensures ∙ ap (λ w. page_text w c.line_at.result) c.page_width.ensures
    ∙ ap (λ h. page_text (page_width c.args.layout.now) h) c.line_at.ensures.line)
    c.in_ok-push_str.ensures.bytes (c.as_str.ensures.value ∙ c.in_ok-title.ensures)
