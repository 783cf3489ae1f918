use Rattle.std.proofs.Common.{◌≡◌, ◌++◌, string_bytes}
use Rattle.view_map.specs.Pieces.{first_lines, row_line}
use Rattle.view_map.proofs.pieces.add_row_lines.Given as goal

abbrev pub invariant-loop-row : goal.invariant-loop-row
invariant-loop-row l = string_bytes l.path ≡ string_bytes l.initial.path ++ first_lines (row_line l.layout) l.row
