use Rattle.std.proofs.Common.{take}
use Rattle.std.specs.List.{AllByRecursion}
use Rattle.sheet_ledger.specs.Flows.{HasFlows, IsMeasured}
use Rattle.sheet_ledger.proofs.flows.flows.Given as goal

-- the flows of the receipts so far, whose measures have 64 bits
abbrev pub invariant-loop-receipt : goal.invariant-loop-receipt
invariant-loop-receipt l = record {
  has : HasFlows l.flows (take l.receipt-index l.receipts);
  measured : AllByRecursion IsMeasured (take l.receipt-index l.receipts);
}
