use Rattle.std.proofs.Common.{◌∙◌, Ok, IsTrue, ap}
use Rattle.std.specs.Prelude.{◌↔◌}
use Rattle.store_sql.proofs.Staying.{looks_stays, stays_then}
use Rattle.identity_register.proofs.Looking.{looked, looked_then, tells, fails}
use Rattle.package_schema.specs.Frames.{ReadsFrame, AreDated}
use Rattle.package_items.specs.Answers.{Decides}
use Rattle.package_items.specs.Ranges.{AreItemsInRange}
use Rattle.opening_survey.specs.Looks.{ReadsFramed}
use Rattle.opening_survey.proofs.Framing.{no_frame, good_frame, not_dated, not_in_range, is_framed}
use Rattle.opening_survey.proofs.forms.read_good_frame.Goals as goal

pub returns-in_default : goal.returns-in_default
returns-in_default g c = tells ReadsFramed (looked ReadsFrame (c.in_ok-frame.was ∙ ap Ok c.in_default.is)
    c.read_frame.ensures) (λ t h. no_frame t h)

pub returns-then-not-is_good : goal.returns-then-not-is_good
returns-then-not-is_good g c =
    tells ReadsFramed (looked ReadsFrame (c.in_ok-frame.was ∙ ap Ok c.in-Some.is) c.read_frame.ensures)
    (λ t h. good_frame t c.in-Some.frame c.is_good.result c.if-not-is_good.true c.is_good.ensures h)

pub returns-then-not-branch : goal.returns-then-not-branch
returns-then-not-branch g c =
    tells ReadsFramed
    (looked_then (λ t dated. IsTrue dated ↔ AreDated t) (looked ReadsFrame (c.in_ok-frame.was ∙ ap Ok c.in-Some.is)
    c.read_frame.ensures) c.in_ok-are_dated.was c.are_dated.ensures)
    (λ t h. not_dated t c.in_ok-are_dated.field-0 c.if-not-branch.true h.1)

pub returns-then-not-branch-2 : goal.returns-then-not-branch-2
returns-then-not-branch-2 g c =
    tells ReadsFramed
    (looked_then (λ t. Decides (AreItemsInRange c.in-Some.frame t))
    (looked_then (λ t dated. IsTrue dated ↔ AreDated t) (looked ReadsFrame (c.in_ok-frame.was ∙ ap Ok c.in-Some.is)
    c.read_frame.ensures) c.in_ok-are_dated.was c.are_dated.ensures)
    c.in_ok-are_in_range.was c.are_in_range.ensures)
    (λ t h. not_in_range t c.in-Some.frame c.in_ok-are_in_range.field-0 c.if-not-branch-2.true h.0.0 h.1)

pub returns-in_err-are_in_range : goal.returns-in_err-are_in_range
returns-in_err-are_in_range g c =
    fails c.from_residual-in_err-are_in_range.result c.from_residual-in_err-are_in_range.ensures.0
    (stays_then (stays_then (looks_stays c.read_frame.ensures) (looks_stays c.are_dated.ensures))
    (looks_stays c.are_in_range.ensures))

pub returns : goal.returns
returns g c =
    tells ReadsFramed
    (looked_then (λ t. Decides (AreItemsInRange c.in-Some.frame t))
    (looked_then (λ t dated. IsTrue dated ↔ AreDated t) (looked ReadsFrame (c.in_ok-frame.was ∙ ap Ok c.in-Some.is)
    c.read_frame.ensures) c.in_ok-are_dated.was c.are_dated.ensures)
    c.in_ok-are_in_range.was c.are_in_range.ensures)
    (λ t h. is_framed t c.in-Some.frame c.in_ok-are_dated.field-0 c.in_ok-are_in_range.field-0 c.if-not-branch.false
    c.if-not-branch-2.false h.0.0 h.0.1 h.1)
