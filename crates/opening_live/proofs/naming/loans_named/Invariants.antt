use Rattle.std.proofs.Common.{◌≡◌, ℕ, List, take}
use Rattle.std.specs.List.{list_any}
use Rattle.std.specs.Ordering.{nat_cmp}
use Rattle.std.specs.Cmp.Lexicographic.{slice_cmp}
use Rattle.std.specs.BTreeSet.{contains}
use Rattle.opening_live.specs.Named.{names_by}
use Rattle.opening_live.proofs.naming.loans_named.Given as goal

-- those that the stores so far name
abbrev pub invariant-loop-sight : goal.invariant-loop-sight
invariant-loop-sight l = (key : List ℕ) → contains (slice_cmp nat_cmp) l.loans key
    ≡ list_any (λ s. names_by s key) (take l.sight-index l.sights)
