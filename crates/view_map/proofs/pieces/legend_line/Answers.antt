use Rattle.std.proofs.Common.{◌∙◌, ◌+◌, ap}
use Rattle.view_map.specs.Layout.{line_at}
use Rattle.view_map.specs.Pieces.{mark_text, told_text}
use Rattle.view_map.proofs.Texts.{two_joined}
use Rattle.view_map.proofs.pieces.legend_line.Goals as goal

pub returns : goal.returns
returns c =
    let h = c.args.holder.now in
    two_joined _ _ _ _ _
    (c.in_ok-text.ensures ∙ ap (λ t. mark_text t c.colour.result.now) c.line_at-top.ensures.line
    ∙ ap (λ f. mark_text (line_at c.args.layout.now c.args.index) f) c.colour.ensures)
    c.in_ok-push_str.ensures.bytes
    (c.as_str.ensures.value ∙ c.in_ok-told.ensures ∙ ap (λ t. told_text (t + 10) h.uuid c.sheets_on-sheets.result
    h.depth) c.line_at-top.ensures.line
    ∙ ap (λ n. told_text (line_at c.args.layout.now c.args.index + 10) h.uuid n h.depth) c.sheets_on-sheets.ensures)
