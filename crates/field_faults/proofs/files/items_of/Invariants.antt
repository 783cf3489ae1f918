use Rattle.std.proofs.Common.{◌≡◌, ◌++◌}
use Rattle.std.specs.List.{filter_map}
use Rattle.std.specs.Vec.Iter.{into_iter_items}
use Rattle.field_faults.specs.Files.{item_in}
use Rattle.field_faults.proofs.files.items_of.Given as goal

-- those so far, and those that are left
abbrev pub invariant-loop-entry : goal.invariant-loop-entry
invariant-loop-entry l = filter_map item_in l.fn.entries.items
    ≡ l.found.items ++ filter_map item_in (into_iter_items l.entry-iterator)
