use Rattle.std.proofs.Common.{◌∙◌}
use Rattle.view_map.specs.Pieces.{column_line}
use Rattle.view_map.proofs.Texts.{line_more, no_line}
use Rattle.view_map.proofs.pieces.add_column_lines.Goals as goal

pub loop-column-init : goal.loop-column-init
loop-column-init c = no_line (column_line c.args.layout.now) _

pub loop-column-preserved : goal.loop-column-preserved
loop-column-preserved c =
    line_more (column_line c.args.layout.now) _ _ _ _ c.loop-column.column c.loop-column.invariant
    (c.as_str.ensures.value ∙ c.in_ok-line.ensures) c.in_ok-push_str.ensures.bytes
