-- One key is set to the flow with this receipt.
use Rattle.std.proofs.Common.{◌≡◌, ◌∙◌, ap, sym}
use Rattle.sheet_ledger.specs.Flows.{flow_in, leaves}
use Rattle.sheet_ledger.specs.declared.flows.Flow.{Flow}
use Rattle.sheet_ledger.proofs.Flowing.{flow_changed}
use Rattle.sheet_ledger.proofs.flows.note_leaving.Goals as goal

pub returns : goal.returns
returns c =
    let more : Flow = record { left = c.with_receipt.result; came = c.flow_of-flow.result.came } in
    let made : more ≡ leaves c.flow_of-flow.result c.args.receipt.now =
    λ j. record { left = c.with_receipt.ensures j; came = c.flow_of-flow.result.came } in
    flow_changed c.args.flows.now c.insert.new.self c.in-Some.source more (λ f. leaves f c.args.receipt.now)
    c.args.receipt.now.source c.in-Some.is (made ∙ ap (λ f. leaves f c.args.receipt.now)
    c.flow_of-flow.ensures) c.in_ok-insert.ensures.updates
