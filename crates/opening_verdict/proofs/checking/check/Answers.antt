-- Each check hands on its fault.
use Rattle.opening_verdict.specs.Checks.{IsFirstOf}
use Rattle.opening_verdict.proofs.Lists.{err_same}
use Rattle.opening_verdict.proofs.checking.check.Goals as goal

pub returns-in_err-check_archives-clause-fault : goal.returns-in_err-check_archives-clause-fault
returns-in_err-check_archives-clause-fault c =
    err_same (IsFirstOf c.args.sights.now c.args.formed.now c.args.tied.now) c.from_residual.result
    c.in_err-check_archives.field-0.0 c.from_residual.ensures.1
    (c.in_err-check_archives.ensures.fault c.args.formed.now c.args.tied.now)

pub returns-in_err-check_formed-clause-fault : goal.returns-in_err-check_formed-clause-fault
returns-in_err-check_formed-clause-fault c =
    err_same (IsFirstOf c.args.sights.now c.args.formed.now c.args.tied.now)
    c.from_residual-in_err-check_formed.result c.in_err-check_formed.field-0.0
    c.from_residual-in_err-check_formed.ensures.1 (c.in_err-check_formed.ensures.fault c.args.tied.now)

pub returns-in_err-check_splits-clause-fault : goal.returns-in_err-check_splits-clause-fault
returns-in_err-check_splits-clause-fault c =
    err_same (IsFirstOf c.args.sights.now c.args.formed.now c.args.tied.now)
    c.from_residual-in_err-check_splits.result c.in_err-check_splits.field-0.0
    c.from_residual-in_err-check_splits.ensures.1 (c.in_err-check_splits.ensures.fault c.args.formed.now
    c.args.tied.now c.in_ok-check_formed.ensures.formed)
