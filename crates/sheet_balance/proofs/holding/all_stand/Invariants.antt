use Rattle.std.proofs.Common.{take}
use Rattle.std.specs.List.{AllByRecursion}
use Rattle.sheet_ledger.specs.Accounts.{place_in}
use Rattle.sheet_balance.specs.Holders.{Stands}
use Rattle.sheet_balance.proofs.holding.all_stand.Given as goal

-- each so far
abbrev pub invariant-loop-holder : goal.invariant-loop-holder
invariant-loop-holder l = AllByRecursion (Stands (place_in l.places)) (take l.holder-index l.holders)
