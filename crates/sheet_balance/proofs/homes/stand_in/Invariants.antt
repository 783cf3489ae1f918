use Rattle.std.proofs.Common.{take}
use Rattle.std.specs.List.{AllByRecursion}
use Rattle.sheet_balance.specs.Homes.{StandsBy}
use Rattle.sheet_balance.proofs.homes.stand_in.Given as goal

-- each so far
abbrev pub invariant-loop-number : goal.invariant-loop-number
invariant-loop-number l = AllByRecursion (StandsBy l.homes l.fn.package) (take l.number-index l.numbers)
