-- The member tells what is moved, and the receipt is made of it.
use Rattle.std.proofs.Common.{◌∙◌, ap}
use Rattle.sheet_types.specs.Step.{receipt_over}
use Rattle.world_members.specs.Steps.{sums_less}
use Rattle.world_queries.proofs.Questions.{asks_answer, asks_failed}
use Rattle.world_decisions.proofs.deciding_splits.parted_at.Goals as goal

pub returns-in_err-things-clause-asks : goal.returns-in_err-things-clause-asks
returns-in_err-things-clause-asks g c = asks_failed g.S.Store _ c.from_residual.ensures.0 c.things_at.ensures

pub returns-in_err-receipt-clause-asks : goal.returns-in_err-receipt-clause-asks
returns-in_err-receipt-clause-asks g c = asks_failed g.S.Store _ c.from_residual-in_err-receipt.ensures.0
    c.things_at.ensures

pub returns-in_err-left-clause-asks : goal.returns-in_err-left-clause-asks
returns-in_err-left-clause-asks g c = asks_failed g.S.Store _ c.from_residual-in_err-left.ensures.0 c.things_at.ensures

pub returns-clause-asks : goal.returns-clause-asks
returns-clause-asks g c =
    asks_answer g.S.Store {x = c.in_ok-things.things} c.in_ok-things.was
    (λ w n are told p cut here selected part. c.in_ok-receipt.ensures
    ∙ ap (receipt_over c.args.seq c.args.request.now) (told p cut here selected part)) c.things_at.ensures

pub returns-clause-left : goal.returns-clause-left
returns-clause-left g c = c.in_ok-left.ensures ∙ ap (λ s. sums_less s c.args.lender.held) c.sums_moved.ensures

pub returns-clause-number : goal.returns-clause-number
returns-clause-number g c = ap (λ r. r.seq) c.in_ok-receipt.ensures
