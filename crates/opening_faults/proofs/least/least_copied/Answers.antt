-- The least of those that are looked for.
use Rattle.std.proofs.Common.{subst}
use Rattle.std.specs.Prelude.{nat_le}
use Rattle.opening_faults.specs.Least.{IsLeastOf}
use Rattle.opening_faults.specs.Sights.{TwoCopies}
use Rattle.opening_faults.specs.declared.least.Wanted.TheVariants.{Doubled}
use Rattle.opening_faults.proofs.Choosing.{told_doubled, counted_to, counted_fro, some_least, none_least}
use Rattle.opening_faults.proofs.least.least_copied.Goals as goal

pub returns-clause-some : goal.returns-clause-some
returns-clause-some c =
    some_least (TwoCopies c.args.sights.now) c.least_of.result c.in_ok-ids.ids.items
    (counted_to c.args.sights.now c.args.splits.now c.requires Doubled (nat_le 2) told_doubled c.in_ok-ids.ids.items
    c.in_ok-ids.ensures)
    (counted_fro c.args.sights.now c.args.splits.now c.requires Doubled (nat_le 2) told_doubled c.in_ok-ids.ids.items
    c.in_ok-ids.ensures)
    (subst (IsLeastOf c.least_of.result) c.as_slice.ensures.value c.least_of.ensures)

pub returns-clause-none : goal.returns-clause-none
returns-clause-none c =
    none_least (TwoCopies c.args.sights.now) c.least_of.result c.in_ok-ids.ids.items
    (counted_fro c.args.sights.now c.args.splits.now c.requires Doubled (nat_le 2) told_doubled c.in_ok-ids.ids.items
    c.in_ok-ids.ensures)
    (subst (IsLeastOf c.least_of.result) c.as_slice.ensures.value c.least_of.ensures)
