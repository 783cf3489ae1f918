-- Where the holdings were found, their text was written, or a beginning of it.
use Rattle.std.proofs.Common.{◌≡◌, ◌∙◌, Some, rules, inl, refl}
use Rattle.sheet_types.specs.Answers.{holdings_answer}
use Rattle.views.proofs.Exported.{HasFailed, failed_written, found_written}
use Rattle.views.proofs.Untouched.{opens_then}
use Rattle.views.proofs.writing.write_export.Goals as goal

pub returns-in_err-items-clause-written : goal.returns-in_err-items-clause-written
returns-in_err-items-clause-written g c =
    let failed : HasFailed c.from_residual.result = search rules in
    λ clean w stands. failed_written w c.args.package _ c.from_residual.result failed

pub returns-in_err-ticket-clause-written : goal.returns-in_err-ticket-clause-written
returns-in_err-ticket-clause-written g c =
    let failed : HasFailed c.from_residual-in_err-ticket.result = search rules in
    λ clean w stands. failed_written w c.args.package _ c.from_residual-in_err-ticket.result failed

pub returns-in_err-ticket-clause-read : goal.returns-in_err-ticket-clause-read
returns-in_err-ticket-clause-read g c = c.in_ok-items.ensures.read

pub returns-clause-opens : goal.returns-clause-opens
returns-clause-opens g c =
    opens_then g.S.Store c.args.world.now c.holdings.new.self c.send_export.result c.in_ok-items.ensures.opens

pub returns-clause-written : goal.returns-clause-written
returns-clause-written g c = λ clean w stands.
    let told = c.in_ok-items.ensures.told clean w stands in
    let found : Some (c.as_slice.result.now, c.as_slice-2.result.now) ≡ holdings_answer w c.args.package =
    search rules in
    found_written w c.args.package c.frame-frame.result c.in_ok-ticket.ticket _ _ _ _ c.send_export.result
    (c.frame-frame.ensures ∙ stands.frame)
    (c.in_ok-ticket.ensures w (c.in_ok-items.ensures.read.stands w stands)) found
    c.send_export.ensures.ok c.send_export.ensures.err c.send_export.ensures.live

pub returns-then-not-is_good-clause-written : goal.returns-then-not-is_good-clause-written
returns-then-not-is_good-clause-written g c = λ clean w stands. inl refl
