-- The counts are those of the loans.
use Rattle.opening_faults.proofs.Choosing.{wanted_told}
use Rattle.opening_faults.proofs.least.ids_wanted.Goals as goal

pub returns : goal.returns
returns c = wanted_told c.args.sights.now c.in_ok-counts.counts c.in_ok-counts.ensures c.args.wanted c.args.splits.now
    c.in_ok-ids.ids.items c.in_ok-ids.ensures
