use Rattle.std.proofs.Common.{◌≡◌, map, take}
use Rattle.field_faults.specs.Files.{plain}
use Rattle.field_faults.proofs.files.plain_names.Given as goal

-- those so far
abbrev pub invariant-loop-item : goal.invariant-loop-item
invariant-loop-item l = l.names.items ≡ map plain (take l.item-index l.items)
