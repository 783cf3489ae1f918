use Rattle.std.proofs.Common.{◌≡◌, ℕ, List, take, []}
use Rattle.std.specs.List.{list_any}
use Rattle.std.specs.Ordering.{nat_cmp}
use Rattle.std.specs.Cmp.Lexicographic.{slice_cmp}
use Rattle.std.specs.BTreeSet.{contains}
use Rattle.sheet_types.specs.Balance.{names_identity}
use Rattle.sheet_ledger.specs.Parts.{EachAfter, AddsWhatIsNew}
use Rattle.sheet_ledger.proofs.newness.add_what_is_new.Given as goal

-- so it is of those so far, and the set has the items that they name
abbrev pub invariant-loop-receipt : goal.invariant-loop-receipt
invariant-loop-receipt l = record {
  named : (id : List ℕ) → contains (slice_cmp nat_cmp) l.named id
      ≡ list_any (names_identity id) (take l.receipt-index l.receipts);
  so_far : EachAfter AddsWhatIsNew [] (take l.receipt-index l.receipts);
}
