-- Where the package is live its text was written, or a beginning of it.
use Rattle.std.proofs.Common.{◌∙◌, rules, subst, inl, refl}
use Rattle.world.specs.Questions.{IsAnswer}
use Rattle.manifest_csv.specs.ByItems.{AreTold}
use Rattle.views.proofs.ExportedByItems.{clean_untouched, given_err, given_ok, told_written, untouched_read}
use Rattle.views.proofs.Exported.{HasFailed, failed_written}
use Rattle.views.proofs.Untouched.{opens_behind}
use Rattle.views.proofs.by_items.write_by_items.Goals as goal

pub returns-in_err-ticket-clause-written : goal.returns-in_err-ticket-clause-written
returns-in_err-ticket-clause-written g c =
    let failed : HasFailed c.from_residual-in_err-ticket.result = search rules in
    λ clean w stands. failed_written w c.args.package _ c.from_residual-in_err-ticket.result failed

pub returns-then-not-is_good-clause-written : goal.returns-then-not-is_good-clause-written
returns-then-not-is_good-clause-written g c = λ clean w stands. inl refl

pub returns-in_err-ticket-clause-read : goal.returns-in_err-ticket-clause-read
returns-in_err-ticket-clause-read g c = c.in_ok-told.ensures.read

pub returns-clause-read : goal.returns-clause-read
returns-clause-read g c = untouched_read g.S.Store c.args.world.now c.ask.new.self c.send_by_items.new.world
    c.in_ok-told.ensures.read c.send_by_items.ensures.read

pub returns-clause-opens : goal.returns-clause-opens
returns-clause-opens g c =
    opens_behind g.S.Store c.args.world.now c.ask.new.self c.send_by_items.new.world c.send_by_items.result
    c.in_ok-told.ensures.opens
    (clean_untouched g.S.Store c.ask.new.self c.send_by_items.new.world c.send_by_items.ensures.read)
    c.send_by_items.ensures.opens

pub returns-clause-written : goal.returns-clause-written
returns-clause-written g c = λ clean w stands.
    let before = clean_untouched g.S.Store c.ask.new.self c.send_by_items.new.world c.send_by_items.ensures.read
    clean in
    let now = c.in_ok-told.ensures.read.stands w stands in
    let told = subst (IsAnswer (λ p held. AreTold p held.0.items held.1.items) w c.args.package) c.in-Some.is
    (c.in_ok-told.ensures.told before w stands) in
    told_written w c.args.package c.frame-frame.result c.in_ok-ticket.ticket _ _ _ c.send_by_items.result
    (c.frame-frame.ensures ∙ stands.frame)
    (c.in_ok-ticket.ensures w now told.0) told.0 (c.as_slice-2.ensures.value ∙ told.1.1)
    (given_ok c.send_by_items.result (λ it. it clean w now (c.as_slice.ensures.value ∙ told.1.0))
    c.send_by_items.ensures.ok)
    (given_err c.send_by_items.result (λ it. it clean w now (c.as_slice.ensures.value ∙ told.1.0))
    c.send_by_items.ensures.err)
    c.send_by_items.ensures.live

pub returns-in_err-told-clause-written : goal.returns-in_err-told-clause-written
returns-in_err-told-clause-written g c =
    let failed : HasFailed c.from_residual.result = search rules in
    λ clean w stands. failed_written w c.args.package _ c.from_residual.result failed

pub returns-in_default-clause-written : goal.returns-in_default-clause-written
returns-in_default-clause-written g c = λ clean w stands. rw c.in_default.is at
    (c.in_ok-told.ensures.told clean w stands)
