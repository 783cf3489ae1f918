use Rattle.std.proofs.Common.{take, []}
use Rattle.sheet_ledger.specs.Accounts.{KeepsCustody}
use Rattle.sheet_ledger.specs.Parts.{EachAfter, StartsWhereItEnded}
use Rattle.sheet_ledger.proofs.moving.start_where_they_ended.Given as goal

-- so it is of those so far, and the map has their custody
abbrev pub invariant-loop-receipt : goal.invariant-loop-receipt
invariant-loop-receipt l = record {
  kept : KeepsCustody l.places (take l.receipt-index l.receipts);
  so_far : EachAfter StartsWhereItEnded [] (take l.receipt-index l.receipts);
}
