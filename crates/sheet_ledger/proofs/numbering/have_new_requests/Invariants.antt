use Rattle.std.proofs.Common.{◌≡◌, ℕ, List, take, []}
use Rattle.std.specs.Ordering.{nat_cmp}
use Rattle.std.specs.Cmp.Lexicographic.{slice_cmp}
use Rattle.std.specs.BTreeSet.{contains}
use Rattle.sheet_types.specs.Ordered.{has}
use Rattle.sheet_ledger.specs.Parts.{EachAfter, HasNewRequest}
use Rattle.sheet_ledger.proofs.numbering.have_new_requests.Given as goal

-- those so far are of different requests, which the set has
abbrev pub invariant-loop-receipt : goal.invariant-loop-receipt
invariant-loop-receipt l = record {
  seen : (id : List ℕ) → contains (slice_cmp nat_cmp) l.seen id
      ≡ has (λ x. x.request) id (take l.receipt-index l.receipts);
  so_far : EachAfter HasNewRequest [] (take l.receipt-index l.receipts);
}
