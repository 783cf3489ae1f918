use Rattle.std.proofs.Common.{take}
use Rattle.std.specs.List.{AllByRecursion}
use Rattle.sheet_balance.specs.Splits.{StandsBefore}
use Rattle.sheet_balance.proofs.merges.stood_here.Given as goal

-- each so far
abbrev pub invariant-loop-lent : goal.invariant-loop-lent
invariant-loop-lent l = AllByRecursion (StandsBefore l.fn.home l.seq) (take l.lent-index l.lents)
