use Rattle.std.proofs.Common.{◌≡◌, ℕ, List, take}
use Rattle.std.specs.List.{list_any}
use Rattle.std.specs.Ordering.{nat_cmp}
use Rattle.std.specs.Cmp.Lexicographic.{slice_cmp}
use Rattle.std.specs.BTreeSet.{contains}
use Rattle.opening_faults.specs.Altered.{adds_item}
use Rattle.opening_faults.proofs.altered.additions.Given as goal

-- those so far
abbrev pub invariant-loop-receipt : goal.invariant-loop-receipt
invariant-loop-receipt l = (key : List ℕ) → contains (slice_cmp nat_cmp) l.added key
    ≡ list_any (adds_item key) (take l.receipt-index l.ledger)
