use Rattle.std.proofs.Common.{take}
use Rattle.std.specs.List.{AllByRecursion}
use Rattle.sheet_balance.specs.Splits.{UndoesBy}
use Rattle.sheet_balance.proofs.merges.all_together.Given as goal

-- each so far
abbrev pub invariant-loop-sight : goal.invariant-loop-sight
invariant-loop-sight l = AllByRecursion (λ s. AllByRecursion (UndoesBy l.splits s.uuid) s.receipts.items)
    (take l.sight-index l.sights)
