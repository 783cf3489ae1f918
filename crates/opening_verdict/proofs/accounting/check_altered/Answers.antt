-- What has no least has no element.
use Rattle.std.proofs.Common.{◌∙◌}
use Rattle.opening_verdict.proofs.Lists.{none_least}
use Rattle.sheet_balance.proofs.Judged.{held_by}
use Rattle.sheet_types.specs.Balance.{altered}
use Rattle.opening_verdict.proofs.accounting.check_altered.Goals as goal

pub returns-in-None-clause-unaltered : goal.returns-in-None-clause-unaltered
returns-in-None-clause-unaltered c = λ w is. none_least (altered w) (c.in_ok-id.ensures w
    (held_by c.args.account.now c.as_slice.result.now c.as_slice-2.result.now w is c.as_slice.ensures.value
    c.as_slice-2.ensures.value) ∙ c.in-None.is)
