-- One more line.
use Rattle.std.proofs.Common.{◌∙◌, ◌++◌, ap}
use Rattle.command_lines.specs.Drops.{request_line}
use Rattle.command_lines.proofs.Taken.{flat_taken}
use Rattle.command_lines.proofs.drops.requests_text.Goals as goal

pub loop-request-preserved : goal.loop-request-preserved
loop-request-preserved c =
    c.in_ok-put_request.ensures ∙ ap (λ l. l ++ request_line c.request-item.result) c.loop-request.invariant
    ∙ flat_taken request_line c.args.requests.now c.loop-request.request-index c.request-item.result
    c.loop-request-test.true c.request-item.is
