use Rattle.std.proofs.Common.{take}
use Rattle.std.specs.List.{AllByRecursion}
use Rattle.world_known.specs.Known.{Grows, Notes}
use Rattle.world_known.proofs.known.Known.note_all.Given as goal

-- each so far
abbrev pub invariant-loop-receipt : goal.invariant-loop-receipt
invariant-loop-receipt l = record {
  notes : AllByRecursion (Notes l.self) (take l.receipt-index l.receipts);
  grows :
      Grows l.fn.self l.self;
}
