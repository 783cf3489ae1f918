use Rattle.std.proofs.Common.{take}
use Rattle.std.specs.List.{AllByRecursion}
use Rattle.sheet_balance.specs.Holders.{ComesUpIn}
use Rattle.sheet_balance.proofs.sums.are_sums_of.Given as goal

-- each so far
abbrev pub invariant-loop-holder : goal.invariant-loop-holder
invariant-loop-holder l = AllByRecursion (ComesUpIn l.ledger) (take l.holder-index l.holders)
