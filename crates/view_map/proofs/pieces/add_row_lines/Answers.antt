use Rattle.std.proofs.Common.{◌∙◌}
use Rattle.view_map.specs.Pieces.{row_line}
use Rattle.view_map.proofs.Texts.{line_more, no_line}
use Rattle.view_map.proofs.pieces.add_row_lines.Goals as goal

pub loop-row-init : goal.loop-row-init
loop-row-init c = no_line (row_line c.args.layout.now) _

pub loop-row-preserved : goal.loop-row-preserved
loop-row-preserved c =
    line_more (row_line c.args.layout.now) _ _ _ _ c.loop-row.row c.loop-row.invariant
    (c.as_str.ensures.value ∙ c.in_ok-line.ensures) c.in_ok-push_str.ensures.bytes
