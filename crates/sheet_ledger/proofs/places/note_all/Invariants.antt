use Rattle.std.proofs.Common.{◌≡◌, ℕ, List, cond, take}
use Rattle.sheet_types.specs.Ordered.{has}
use Rattle.sheet_types.specs.World.{moved_thing}
use Rattle.sheet_ledger.specs.Accounts.{place_in}
use Rattle.sheet_ledger.proofs.places.note_all.Given as goal

-- the things so far stand there
abbrev pub invariant-loop-moved : goal.invariant-loop-moved
invariant-loop-moved l = (thing : List ℕ) → place_in l.places thing
    ≡ cond (has moved_thing thing (take l.moved-index l.things)) l.target (place_in l.initial.places thing)
