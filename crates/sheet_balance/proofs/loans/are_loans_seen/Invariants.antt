use Rattle.std.proofs.Common.{take}
use Rattle.std.specs.List.{AllByRecursion}
use Rattle.sheet_balance.specs.Splits.{IsLoanBy}
use Rattle.sheet_balance.proofs.loans.are_loans_seen.Given as goal

-- each so far
abbrev pub invariant-loop-holder : goal.invariant-loop-holder
invariant-loop-holder l = AllByRecursion (IsLoanBy l.merges l.splits) (take l.holder-index l.holders)
