-- The least of those that are listed.
use Rattle.std.proofs.Common.{subst}
use Rattle.opening_faults.specs.Least.{IsLeastOf}
use Rattle.opening_faults.specs.Foreign.{IsForeign}
use Rattle.opening_faults.proofs.Choosing.{some_least, none_least}
use Rattle.opening_faults.proofs.Apart.{listed}
use Rattle.opening_faults.proofs.foreign.foreign_to.Goals as goal

pub returns-clause-some : goal.returns-clause-some
returns-clause-some c =
    some_least (IsForeign c.args.root.now c.args.sights.now c.args.splits.now) c.least_of.result c.in_ok-ids.ids.items
    (listed (IsForeign c.args.root.now c.args.sights.now c.args.splits.now) c.in_ok-ids.ids.items c.in_ok-ids.ensures)
    c.in_ok-ids.ensures.whole
    (subst (IsLeastOf c.least_of.result) c.as_slice.ensures.value c.least_of.ensures)

pub returns-clause-none : goal.returns-clause-none
returns-clause-none c =
    none_least (IsForeign c.args.root.now c.args.sights.now c.args.splits.now) c.least_of.result c.in_ok-ids.ids.items
    c.in_ok-ids.ensures.whole
    (subst (IsLeastOf c.least_of.result) c.as_slice.ensures.value c.least_of.ensures)
