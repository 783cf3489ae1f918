use Rattle.std.proofs.Common.{take}
use Rattle.opening_faults.specs.Copies.{copies_of}
use Rattle.opening_faults.specs.Least.{AreWanted, is_wanted}
use Rattle.opening_faults.proofs.least.wanted_among.Given as goal

-- those so far
abbrev pub invariant-loop-split : goal.invariant-loop-split
invariant-loop-split l = AreWanted (λ split. is_wanted l.fn.wanted (copies_of l.counts split))
    (take l.split-index l.splits) l.ids.items
