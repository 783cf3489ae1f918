use Rattle.std.proofs.Common.{List, ◌++◌, take}
use Rattle.serde_json.specs.Data.{Data}
use Rattle.view_json.specs.Arrays.{IsOpen}
use Rattle.view_json.specs.Ways.{way_datas}
use Rattle.view_json.proofs.ways.put_receipts.Given as goal

-- the receipts so far
abbrev pub invariant-loop-receipt : goal.invariant-loop-receipt
invariant-loop-receipt l = (ds : List Data) → IsOpen ds l.initial.lines
    → IsOpen (ds ++ way_datas l.identity (take l.receipt-index l.receipts)) l.lines
