-- One key is set to the flow with this receipt.
use Rattle.std.proofs.Common.{◌≡◌, ◌∙◌, ap, sym}
use Rattle.sheet_ledger.specs.Flows.{flow_in, comes}
use Rattle.sheet_ledger.specs.declared.flows.Flow.{Flow}
use Rattle.sheet_ledger.proofs.Flowing.{flow_changed}
use Rattle.sheet_ledger.proofs.flows.note_coming.Goals as goal

pub returns : goal.returns
returns c =
    let more : Flow = record { came = c.with_receipt.result; left = c.flow_of-flow.result.left } in
    let made : more ≡ comes c.flow_of-flow.result c.args.receipt.now =
    λ j. record { came = c.with_receipt.ensures j; left = c.flow_of-flow.result.left } in
    flow_changed c.args.flows.now c.insert.new.self c.in-Some.target more (λ f. comes f c.args.receipt.now)
    c.args.receipt.now.target c.in-Some.is (made ∙ ap (λ f. comes f c.args.receipt.now) c.flow_of-flow.ensures)
    c.in_ok-insert.ensures.updates
