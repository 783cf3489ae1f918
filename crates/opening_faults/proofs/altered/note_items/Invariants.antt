use Rattle.std.proofs.Common.{◌≡◌, ◌||◌, ℕ, List, take}
use Rattle.std.specs.Ordering.{nat_cmp}
use Rattle.std.specs.Cmp.Lexicographic.{slice_cmp}
use Rattle.std.specs.BTreeSet.{contains}
use Rattle.sheet_types.specs.Ordered.{has}
use Rattle.opening_faults.specs.Altered.{item_said}
use Rattle.opening_faults.proofs.altered.note_items.Given as goal

-- those so far
abbrev pub invariant-loop-moved : goal.invariant-loop-moved
invariant-loop-moved l = (key : List ℕ) → contains (slice_cmp nat_cmp) l.added key
    ≡ (contains (slice_cmp nat_cmp) l.initial.added key || has item_said key (take l.moved-index l.items))
