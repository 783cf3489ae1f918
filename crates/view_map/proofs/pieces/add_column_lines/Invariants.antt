use Rattle.std.proofs.Common.{◌≡◌, ◌++◌, string_bytes}
use Rattle.view_map.specs.Pieces.{column_line, first_lines}
use Rattle.view_map.proofs.pieces.add_column_lines.Given as goal

abbrev pub invariant-loop-column : goal.invariant-loop-column
invariant-loop-column l = string_bytes l.path ≡ string_bytes l.initial.path
    ++ first_lines (column_line l.layout) l.column
