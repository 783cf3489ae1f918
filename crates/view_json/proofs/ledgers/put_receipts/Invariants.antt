use Rattle.std.proofs.Common.{List, ◌++◌, map, take}
use Rattle.serde_json.specs.Data.{Data}
use Rattle.view_json.specs.Arrays.{IsOpen}
use Rattle.view_json.specs.Ledgers.{receipt_data}
use Rattle.view_json.proofs.ledgers.put_receipts.Given as goal

-- the receipts so far
abbrev pub invariant-loop-receipt : goal.invariant-loop-receipt
invariant-loop-receipt l = (ds : List Data) → IsOpen ds l.initial.lines
    → IsOpen (ds ++ map (λ r. receipt_data r.now) (take l.receipt-index l.receipts)) l.lines
