-- One receipt more, within bounds.
use Rattle.std.proofs.Common.{◌≡◌, ◌<◌, ◌^◌, ◌+◌, length, take, arith}
use Rattle.std.proofs.lemmas.List.{length-take-le}
use Rattle.sheet_ledger.specs.Flows.{IsMeasured}
use Rattle.sheet_ledger.proofs.Walking.{one_more, all_more}
use Rattle.sheet_ledger.proofs.Flowing.{flows_more, came_bound, left_bound}
use Rattle.sheet_ledger.proofs.flows.flows.Goals as goal

pub note_coming-requires : goal.note_coming-requires
note_coming-requires c =
    let i = c.loop-receipt.receipt-index in
    let long : length (take i c.args.receipts.now) ≡ i = length-take-le i c.args.receipts.now (omega arith) in
    came_bound c.loop-receipt.flows (take i c.args.receipts.now) c.loop-receipt.invariant.has (omega arith)
    c.loop-receipt.invariant.measured

pub note_leaving-requires : goal.note_leaving-requires
note_leaving-requires c =
    let i = c.loop-receipt.receipt-index in
    let long : length (take i c.args.receipts.now) ≡ i = length-take-le i c.args.receipts.now (omega arith) in
    left_bound c.loop-receipt.flows c.note_coming.new.flows (take i c.args.receipts.now) c.receipt-item.result
    c.loop-receipt.invariant.has (omega arith) c.loop-receipt.invariant.measured c.in_ok-note_coming.ensures

pub loop-receipt-preserved : goal.loop-receipt-preserved
loop-receipt-preserved c =
    let i = c.loop-receipt.receipt-index in
    record {
      has = flows_more c.loop-receipt.flows c.note_coming.new.flows c.note_leaving.new.flows
          (take i c.args.receipts.now) (take (i + 1) c.args.receipts.now) c.receipt-item.result
          (one_more c.args.receipts.now i c.receipt-item.result c.loop-receipt-test.true c.receipt-item.is)
          c.loop-receipt.invariant.has c.in_ok-note_coming.ensures c.in_ok-note_leaving.ensures;
      measured = all_more IsMeasured c.args.receipts.now i c.receipt-item.result c.loop-receipt-test.true
          c.receipt-item.is c.loop-receipt.invariant.measured c.is_measured.ensures;
    }
