-- The levels so far.
use Rattle.std.proofs.Common.{◌≡◌}
use Rattle.std.specs.Prelude.{string_bytes}
use Rattle.view_export.specs.FixedRows.{matrices}
use Rattle.view_export.proofs.matrices.matrices.Given as goal

abbrev pub invariant-loop-level : goal.invariant-loop-level
invariant-loop-level l = string_bytes l.text ≡ matrices l.frame l.level
