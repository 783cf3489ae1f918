use Rattle.std.proofs.Common.{◌≡◌, ℕ, List, take}
use Rattle.std.specs.List.{list_any}
use Rattle.std.specs.Ordering.{nat_cmp}
use Rattle.std.specs.Cmp.Lexicographic.{slice_cmp}
use Rattle.std.specs.BTreeSet.{contains}
use Rattle.field_changes.specs.Naming.{is_marked}
use Rattle.field_changes.proofs.naming.marks_in.Given as goal

-- those so far
abbrev pub invariant-loop-item : goal.invariant-loop-item
invariant-loop-item l = (q : List ℕ) → contains (slice_cmp nat_cmp) l.marks q
    ≡ list_any (is_marked q) (take l.item-index l.file)
