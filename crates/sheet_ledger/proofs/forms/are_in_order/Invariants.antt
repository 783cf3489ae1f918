use Rattle.std.proofs.Common.{take}
use Rattle.std.specs.List.{AllByRecursion}
use Rattle.sheet_ledger.specs.Parts.{IsInOrder}
use Rattle.sheet_ledger.proofs.forms.are_in_order.Given as goal

-- each so far
abbrev pub invariant-loop-receipt : goal.invariant-loop-receipt
invariant-loop-receipt l = AllByRecursion IsInOrder (take l.receipt-index l.receipts)
