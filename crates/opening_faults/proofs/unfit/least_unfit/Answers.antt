-- The least of those that are listed.
use Rattle.std.proofs.Common.{subst}
use Rattle.opening_faults.specs.Least.{IsLeastOf}
use Rattle.opening_faults.specs.Unfit.{IsUnfit}
use Rattle.opening_faults.proofs.Choosing.{some_least, none_least}
use Rattle.opening_faults.proofs.Apart.{listed}
use Rattle.opening_faults.proofs.unfit.least_unfit.Goals as goal

pub returns-clause-some : goal.returns-clause-some
returns-clause-some c =
    some_least (IsUnfit c.args.live.now c.args.fit.now c.args.sights.now) c.least_of.result c.in_ok-ids.ids.items
    (listed (IsUnfit c.args.live.now c.args.fit.now c.args.sights.now) c.in_ok-ids.ids.items c.in_ok-ids.ensures)
    c.in_ok-ids.ensures.whole
    (subst (IsLeastOf c.least_of.result) c.as_slice.ensures.value c.least_of.ensures)

pub returns-clause-none : goal.returns-clause-none
returns-clause-none c =
    none_least (IsUnfit c.args.live.now c.args.fit.now c.args.sights.now) c.least_of.result c.in_ok-ids.ids.items
    c.in_ok-ids.ensures.whole
    (subst (IsLeastOf c.least_of.result) c.as_slice.ensures.value c.least_of.ensures)
