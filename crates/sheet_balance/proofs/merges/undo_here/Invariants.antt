use Rattle.std.proofs.Common.{take}
use Rattle.std.specs.List.{AllByRecursion}
use Rattle.sheet_balance.specs.Splits.{UndoesBy}
use Rattle.sheet_balance.proofs.merges.undo_here.Given as goal

-- each so far
abbrev pub invariant-loop-receipt : goal.invariant-loop-receipt
invariant-loop-receipt l = AllByRecursion (UndoesBy l.splits l.fn.home) (take l.receipt-index l.receipts)
