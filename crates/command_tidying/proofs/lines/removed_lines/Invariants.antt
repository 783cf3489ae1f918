use Rattle.std.proofs.Common.{◌≡◌, take}
use Rattle.std.specs.Prelude.{string_bytes}
use Rattle.command_tidying.specs.Lines.{removed_lines}
use Rattle.command_tidying.proofs.lines.removed_lines.Given as goal

-- the lines of the names so far
abbrev pub invariant-loop-name : goal.invariant-loop-name
invariant-loop-name l = string_bytes l.text ≡ removed_lines (take l.name-index l.names)
