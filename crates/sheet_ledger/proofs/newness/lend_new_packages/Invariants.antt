use Rattle.std.proofs.Common.{◌≡◌, ◌&&◌, false, ℕ, List, take, []}
use Rattle.std.specs.List.{list_any}
use Rattle.std.specs.Ordering.{nat_cmp}
use Rattle.std.specs.Cmp.Lexicographic.{slice_cmp}
use Rattle.std.specs.BTreeSet.{contains}
use Rattle.sheet_types.specs.Custody.{is_split, ends_at}
use Rattle.sheet_ledger.specs.Parts.{EachAfter, LendsNewPackage}
use Rattle.sheet_ledger.proofs.newness.lend_new_packages.Given as goal

-- so it is of those so far, and the set has the packages that they lend
abbrev pub invariant-loop-receipt : goal.invariant-loop-receipt
invariant-loop-receipt l = record {
  lent : (p : List ℕ) → contains (slice_cmp nat_cmp) l.lent p
      ≡ list_any (λ r. is_split r && ends_at r.target p) (take l.receipt-index l.receipts);
  whole : contains (slice_cmp nat_cmp) l.lent [] ≡ false;
  so_far : EachAfter (LendsNewPackage l.archive) [] (take l.receipt-index l.receipts);
}
