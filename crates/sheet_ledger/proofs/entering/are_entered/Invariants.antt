use Rattle.std.proofs.Common.{take}
use Rattle.std.specs.List.{AllByRecursion}
use Rattle.sheet_ledger.specs.Parts.{IsEntered}
use Rattle.sheet_ledger.proofs.entering.are_entered.Given as goal

-- each so far fits its line
abbrev pub invariant-loop-receipt : goal.invariant-loop-receipt
invariant-loop-receipt l = AllByRecursion IsEntered (take l.receipt-index l.receipts)
