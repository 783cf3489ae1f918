use Rattle.std.proofs.Common.{take}
use Rattle.std.specs.List.{AllByRecursion}
use Rattle.sheet_balance.specs.Homes.{StandsBy}
use Rattle.sheet_balance.proofs.homes.all_at_home.Given as goal

-- each so far
abbrev pub invariant-loop-holder : goal.invariant-loop-holder
invariant-loop-holder l = AllByRecursion (λ h. AllByRecursion (StandsBy l.homes h.uuid) h.numbers.items)
    (take l.holder-index l.holders)
