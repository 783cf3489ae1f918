use Rattle.std.proofs.Common.{take}
use Rattle.std.specs.Prelude.{not, filter}
use Rattle.std.specs.Ordering.{nat_cmp}
use Rattle.std.specs.Cmp.Lexicographic.{slice_cmp}
use Rattle.std.specs.BTreeSet.{contains}
use Rattle.field_changes.specs.Keys.{item_mark}
use Rattle.field_changes.specs.Spare.{HoldsSpare}
use Rattle.field_changes.proofs.naming.spare_of.Given as goal

-- those so far
abbrev pub invariant-loop-item : goal.invariant-loop-item
invariant-loop-item l = HoldsSpare (filter (λ i. not (contains (slice_cmp nat_cmp) l.marked (item_mark i)))
    (take l.item-index l.items)) l.spare
