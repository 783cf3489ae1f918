use Rattle.std.proofs.Common.{◌≡◌, ℕ, List, ◌&&◌, false, nat_lt, take}
use Rattle.std.specs.List.{list_any}
use Rattle.std.specs.Option.{option_map_or}
use Rattle.std.specs.Ordering.{nat_cmp}
use Rattle.std.specs.Cmp.Lexicographic.{slice_cmp}
use Rattle.std.specs.BTreeMap.{get}
use Rattle.sheet_types.specs.Custody.{is_merge, ends_at, after}
use Rattle.sheet_ledger.proofs.loans.last_merges.Given as goal

-- the last merges of the receipts so far
abbrev pub invariant-loop-receipt : goal.invariant-loop-receipt
invariant-loop-receipt l = (p : List ℕ) (n : ℕ) → option_map_or (nat_lt n) (get (slice_cmp nat_cmp) l.merges p)
    false ≡ list_any (λ r. is_merge r && ends_at r.source p) (after n (take l.receipt-index l.receipts))
