use Rattle.std.proofs.Common.{◌≡◌, ℕ, List, take}
use Rattle.std.specs.Prelude.{count_by}
use Rattle.std.specs.Ordering.{nat_cmp}
use Rattle.std.specs.Cmp.Lexicographic.{slice_cmp}
use Rattle.std.specs.BTreeMap.{get}
use Rattle.opening_faults.specs.Copies.{told}
use Rattle.opening_faults.specs.Splits.{has_key}
use Rattle.opening_faults.proofs.copies.count_heads.Given as goal

-- those so far are counted
abbrev pub invariant-loop-sight : goal.invariant-loop-sight
invariant-loop-sight l = (key : List ℕ) → get (slice_cmp nat_cmp) l.counts key
    ≡ told (count_by (has_key key) (take l.sight-index l.sights))
