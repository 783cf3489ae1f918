use Rattle.std.proofs.Common.{take}
use Rattle.sheet_ledger.specs.Accounts.{KeepsCustody}
use Rattle.sheet_ledger.proofs.places.places.Given as goal

-- the custody of the receipts so far
abbrev pub invariant-loop-receipt : goal.invariant-loop-receipt
invariant-loop-receipt l = KeepsCustody l.places (take l.receipt-index l.receipts)
