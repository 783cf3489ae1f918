use Rattle.std.proofs.Common.{◌≡◌, ◌++◌, flat_map}
use Rattle.std.specs.Prelude.{string_bytes}
use Rattle.view_report.specs.Escaping.{escaped_code}
use Rattle.view_report.proofs.escaping.put_escaped.Given as goal

-- the text of the characters so far
abbrev pub invariant-loop-letter : goal.invariant-loop-letter
invariant-loop-letter l = string_bytes l.text ≡ string_bytes l.initial.text ++ flat_map escaped_code l.yielded
