use Rattle.std.proofs.Common.{◌≡◌, ◌++◌, drop}
use Rattle.std.specs.Vec.Iter.{into_iter_items}
use Rattle.field_changes.specs.Parts.{new_items}
use Rattle.field_changes.proofs.parts.new_items.Given as goal

-- those so far, and those that are left
abbrev pub invariant-loop-name : goal.invariant-loop-name
invariant-loop-name l = new_items l.names l.fn.file.items ≡ l.items.items
    ++ new_items (drop l.name-index l.names) (into_iter_items l.left)
