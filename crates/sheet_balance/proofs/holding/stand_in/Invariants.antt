use Rattle.std.proofs.Common.{◌≡◌, Some, take}
use Rattle.std.specs.List.{AllByRecursion}
use Rattle.sheet_types.specs.World.{moved_thing}
use Rattle.sheet_ledger.specs.Accounts.{place_in}
use Rattle.sheet_balance.proofs.holding.stand_in.Given as goal

-- each so far
abbrev pub invariant-loop-moved : goal.invariant-loop-moved
invariant-loop-moved l = AllByRecursion (λ m. place_in l.places (moved_thing m) ≡ Some l.fn.package)
    (take l.moved-index l.things)
