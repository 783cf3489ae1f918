use Rattle.std.proofs.Common.{take, []}
use Rattle.sheet_ledger.specs.Parts.{EachAfter, HasNextNumber}
use Rattle.sheet_ledger.proofs.numbering.are_numbered.Given as goal

-- those so far are numbered in turn
abbrev pub invariant-loop-at : goal.invariant-loop-at
invariant-loop-at l = EachAfter HasNextNumber [] (take l.at l.receipts)
