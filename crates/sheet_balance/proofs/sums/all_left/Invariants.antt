use Rattle.std.specs.List.{AllByRecursion}
use Rattle.sheet_balance.proofs.Leaving.{HasLeft}
use Rattle.sheet_balance.proofs.sums.all_left.Given as goal

-- where the rest has left, all have
abbrev pub invariant-loop-package : goal.invariant-loop-package
invariant-loop-package l =
    (goal.iterator-loop-package).can_next l.package-iterator ×
    (goal.iterator-loop-package).is_finite l.package-iterator ×
    (AllByRecursion (HasLeft l.uuids) l.package-iterator → AllByRecursion (HasLeft l.uuids) l.flows.entries)
