use Rattle.std.proofs.Common.{◌≡◌, take}
use Rattle.std.specs.List.{filter_map}
use Rattle.field_faults.specs.Files.{link_in}
use Rattle.field_faults.proofs.files.links_of.Given as goal

-- those so far
abbrev pub invariant-loop-entry : goal.invariant-loop-entry
invariant-loop-entry l = l.found.items ≡ filter_map link_in (take l.entry-index l.entries)
