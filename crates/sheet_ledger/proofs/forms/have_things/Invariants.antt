use Rattle.std.proofs.Common.{take}
use Rattle.std.specs.List.{AllByRecursion}
use Rattle.sheet_ledger.specs.Parts.{HasThings}
use Rattle.sheet_ledger.proofs.forms.have_things.Given as goal

-- each so far
abbrev pub invariant-loop-receipt : goal.invariant-loop-receipt
invariant-loop-receipt l = AllByRecursion HasThings (take l.receipt-index l.receipts)
