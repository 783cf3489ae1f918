use Rattle.std.proofs.Common.{take}
use Rattle.std.specs.List.{AllByRecursion}
use Rattle.sheet_types.specs.Balance.{IsThing}
use Rattle.sheet_ledger.proofs.forms.are_things.Given as goal

-- each so far
abbrev pub invariant-loop-moved : goal.invariant-loop-moved
invariant-loop-moved l = AllByRecursion IsThing (take l.moved-index l.things)
