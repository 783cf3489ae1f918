use Rattle.std.proofs.Common.{◌≡◌, ℕ, List, take}
use Rattle.std.specs.List.{list_any}
use Rattle.std.specs.Ordering.{nat_cmp}
use Rattle.std.specs.Cmp.Lexicographic.{slice_cmp}
use Rattle.std.specs.BTreeSet.{contains}
use Rattle.opening_faults.specs.Splits.{makes_key}
use Rattle.opening_faults.proofs.reaching.keys_of.Given as goal

-- those of the splits so far
abbrev pub invariant-loop-split : goal.invariant-loop-split
invariant-loop-split l = (key : List ℕ) → contains (slice_cmp nat_cmp) l.loans key
    ≡ list_any (makes_key key) (take l.split-index l.splits)
