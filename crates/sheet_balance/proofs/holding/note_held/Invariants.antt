use Rattle.std.proofs.Common.{◌≡◌, ◌||◌, ℕ, List, take}
use Rattle.std.specs.Ordering.{nat_cmp}
use Rattle.std.specs.Cmp.Lexicographic.{slice_cmp}
use Rattle.std.specs.BTreeSet.{contains}
use Rattle.sheet_types.specs.Ordered.{has}
use Rattle.sheet_types.specs.World.{moved_thing}
use Rattle.sheet_balance.proofs.holding.note_held.Given as goal

-- those so far are held
abbrev pub invariant-loop-moved : goal.invariant-loop-moved
invariant-loop-moved l = (thing : List ℕ) → contains (slice_cmp nat_cmp) l.held thing
    ≡ (contains (slice_cmp nat_cmp) l.initial.held thing || has moved_thing thing (take l.moved-index l.things))
