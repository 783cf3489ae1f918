use Rattle.std.proofs.Common.{◌≡◌, ℕ, ℤ, List, ◌||◌, take, map}
use Rattle.std.specs.List.{list_any}
use Rattle.opening_faults.specs.Merges.{is_above, merges_after}
use Rattle.opening_faults.specs.Sights.{claim_said}
use Rattle.opening_faults.proofs.merging.note_merges.Given as goal

-- those so far are noted
abbrev pub invariant-loop-claim : goal.invariant-loop-claim
invariant-loop-claim l = (source : List ℕ) (n : ℤ) → is_above l.merges source n
    ≡ (is_above l.initial.merges source n || list_any (merges_after source n)
    (map claim_said (take l.claim-index l.claims)))
