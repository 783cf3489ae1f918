use Rattle.std.proofs.Common.{◌≡◌, take}
use Rattle.std.specs.Prelude.{flat_map, string_bytes}
use Rattle.field_faults.specs.Lines.{bad_line}
use Rattle.field_faults.proofs.lines.bad_lines.Given as goal

-- the lines so far
abbrev pub invariant-loop-record : goal.invariant-loop-record
invariant-loop-record l = string_bytes l.text ≡ flat_map bad_line (take l.record-index l.bad)
