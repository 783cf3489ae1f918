-- What is listed is what is altered.
use Rattle.std.proofs.Common.{subst}
use Rattle.opening_faults.specs.Least.{IsLeastOf}
use Rattle.opening_faults.proofs.Altering.{least_altered_is}
use Rattle.opening_faults.proofs.altered.least_altered.Goals as goal

pub returns : goal.returns
returns c = λ w seen.
    least_altered_is c.args.ledger.now c.args.holders.now w seen c.in_ok-added.added c.in_ok-added.ensures
    c.in_ok-ids.ids.items c.least_of.result c.in_ok-ids.ensures
    (subst (IsLeastOf c.least_of.result) c.as_slice.ensures.value c.least_of.ensures)
