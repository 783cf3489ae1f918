use Rattle.std.proofs.Common.{◌≡◌, ◌++◌}
use Rattle.std.specs.Prelude.{string_bytes}
use Rattle.view_text.specs.Columns.{spaces}
use Rattle.view_text.proofs.columns.put_spaces.Given as goal

-- a space a turn
abbrev pub invariant-loop : goal.invariant-loop
invariant-loop l = string_bytes l.line ≡ string_bytes l.initial.line ++ spaces l.counter
