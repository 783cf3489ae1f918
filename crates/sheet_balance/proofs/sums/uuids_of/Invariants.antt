use Rattle.std.proofs.Common.{◌≡◌, ℕ, List, take}
use Rattle.std.specs.Ordering.{nat_cmp}
use Rattle.std.specs.Cmp.Lexicographic.{slice_cmp}
use Rattle.std.specs.BTreeSet.{contains}
use Rattle.sheet_types.specs.Ordered.{has}
use Rattle.sheet_balance.proofs.sums.uuids_of.Given as goal

-- those of the packages so far
abbrev pub invariant-loop-holder : goal.invariant-loop-holder
invariant-loop-holder l = (p : List ℕ) → contains (slice_cmp nat_cmp) l.uuids p
    ≡ has (λ s. s.uuid) p (take l.holder-index l.holders)
