use Rattle.std.proofs.Common.{◌≡◌, take}
use Rattle.std.specs.List.{filter_map}
use Rattle.field_faults.specs.Files.{export_in}
use Rattle.field_faults.proofs.files.exports_of.Given as goal

-- those so far
abbrev pub invariant-loop-entry : goal.invariant-loop-entry
invariant-loop-entry l = l.found.items ≡ filter_map export_in (take l.entry-index l.entries)
