-- The flags are those of the live stores.
use Rattle.std.proofs.Common.{subst}
use Rattle.sheet_types.specs.Opening.{IsNever}
use Rattle.opening_faults.specs.Unfit.{IsUnfit}
use Rattle.opening_verdict.proofs.checking.check_tied.Goals as goal

pub returns-in-None-clause-tied : goal.returns-in-None-clause-tied
returns-in-None-clause-tied c = subst (λ live. IsNever (IsUnfit live c.args.tied.now c.args.sights.now))
    c.requires.live (rw c.in-None.is at c.in_ok-id.ensures.none)
