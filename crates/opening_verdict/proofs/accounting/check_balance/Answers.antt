-- The judge says so.
use Rattle.std.proofs.Common.{sym, ◌∙◌, inr}
use Rattle.std.proofs.lemmas.Bool.{false≢true}
use Rattle.opening_verdict.proofs.accounting.check_balance.Goals as goal

pub returns-then-not-branch-clause-fault : goal.returns-then-not-branch-clause-fault
returns-then-not-branch-clause-fault c = λ w is.
    inr (λ balanced. false≢true (sym c.if-not-branch.true ∙ (c.in_ok-judge_account.ensures w is).1 balanced))

pub returns-clause-balanced : goal.returns-clause-balanced
returns-clause-balanced c = λ w is. (c.in_ok-judge_account.ensures w is).0 c.if-not-branch.false
