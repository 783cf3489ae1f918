use Rattle.std.proofs.Common.{◌≡◌, ℕ, List, ◌||◌, take}
use Rattle.std.specs.List.{list_any}
use Rattle.std.specs.Ordering.{nat_cmp}
use Rattle.std.specs.Cmp.Lexicographic.{slice_cmp}
use Rattle.std.specs.BTreeSet.{contains}
use Rattle.opening_faults.specs.Merges.{is_open_by}
use Rattle.opening_faults.specs.Sights.{claim_said}
use Rattle.opening_live.specs.Named.{names}
use Rattle.opening_live.proofs.naming.note_claims.Given as goal

-- those of the claims so far
abbrev pub invariant-loop-claim : goal.invariant-loop-claim
invariant-loop-claim l = (key : List ℕ) → contains (slice_cmp nat_cmp) l.loans key
    ≡ (contains (slice_cmp nat_cmp) l.initial.loans key || list_any
    (λ x. names (is_open_by l.merges) l.head (claim_said x) key) (take l.claim-index l.claims))
