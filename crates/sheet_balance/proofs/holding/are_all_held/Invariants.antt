use Rattle.std.specs.List.{AllByRecursion}
use Rattle.sheet_balance.proofs.Kept.{IsFound}
use Rattle.sheet_balance.proofs.holding.are_all_held.Given as goal

-- where the rest is held, all are
abbrev pub invariant-loop-thing : goal.invariant-loop-thing
invariant-loop-thing l =
    (goal.iterator-loop-thing).can_next l.thing-iterator ×
    (goal.iterator-loop-thing).is_finite l.thing-iterator ×
    (AllByRecursion (IsFound l.held) l.thing-iterator → AllByRecursion (IsFound l.held) l.places.entries)
