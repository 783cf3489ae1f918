use Rattle.std.proofs.Common.{◌≡◌, ◌++◌, ℕ, List, [], take}
use Rattle.sheet_balance.specs.Splits.{lents_in, lents_among}
use Rattle.sheet_balance.proofs.splits.note_splits.Given as goal

-- the splits of the receipts so far, behind the others
abbrev pub invariant-loop-receipt : goal.invariant-loop-receipt
invariant-loop-receipt l = record {
  noted : (p : List ℕ) → lents_in l.splits p ≡ lents_in l.initial.splits p
      ++ lents_among l.fn.home p (take l.receipt-index l.receipts);
  whole : lents_in l.splits [] ≡ lents_in l.initial.splits [];
}
