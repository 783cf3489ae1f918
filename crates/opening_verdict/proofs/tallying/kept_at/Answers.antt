-- The store's own head.
use Rattle.std.proofs.Common.{ap, subst, sym, ◌∙◌, Some}
use Rattle.opening_verdict.specs.Tallies.{IsKeptBy}
use Rattle.opening_verdict.proofs.tallying.kept_at.Goals as goal

pub returns-in_ok-kept_of-in-true-Some-clause-kept : goal.returns-in_ok-kept_of-in-true-Some-clause-kept
returns-in_ok-kept_of-in-true-Some-clause-kept c = λ ledger tells.
    let kept = c.in_ok-kept_of-in-true-Some.field-0 in
    let is = c.in_ok-kept_of-in-true-Some.ensures.kept ledger tells in (
      c.in-true-Some.is-0,
      c.in-true-Some.is-1 ∙ ap Some (sym is.head_is),
      subst
          (λ h. IsKeptBy ledger h c.args.sums kept) (sym is.head_is) is,
    )
