use Rattle.std.proofs.Common.{take}
use Rattle.std.specs.List.{AllByRecursion}
use Rattle.sheet_types.specs.Balance.{CountsFit}
use Rattle.sheet_ledger.proofs.forms.are_counted.Given as goal

-- each so far
abbrev pub invariant-loop-receipt : goal.invariant-loop-receipt
invariant-loop-receipt l = AllByRecursion CountsFit (take l.receipt-index l.receipts)
