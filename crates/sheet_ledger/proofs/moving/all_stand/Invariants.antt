use Rattle.std.proofs.Common.{◌≡◌, take}
use Rattle.std.specs.List.{AllByRecursion}
use Rattle.sheet_types.specs.World.{moved_thing}
use Rattle.sheet_ledger.specs.Accounts.{place_in}
use Rattle.sheet_ledger.proofs.moving.all_stand.Given as goal

-- each so far stands there
abbrev pub invariant-loop-moved : goal.invariant-loop-moved
invariant-loop-moved l = AllByRecursion (λ m. place_in l.places (moved_thing m) ≡ l.source)
    (take l.moved-index l.things)
