use Rattle.std.proofs.Common.{◌≡◌, ◌&&◌, ◌||◌, ℕ, List, bytes_eq, take}
use Rattle.std.specs.List.{list_any}
use Rattle.std.specs.Ordering.{nat_cmp}
use Rattle.std.specs.Cmp.Lexicographic.{slice_cmp}
use Rattle.std.specs.BTreeSet.{contains}
use Rattle.sheet_types.specs.World.{is_item_kind}
use Rattle.sheet_ledger.proofs.newness.name_items.Given as goal

-- the items so far are named
abbrev pub invariant-loop-moved : goal.invariant-loop-moved
invariant-loop-moved l = (id : List ℕ) → contains (slice_cmp nat_cmp) l.named id
    ≡ (contains (slice_cmp nat_cmp) l.initial.named id || list_any (λ m. is_item_kind m.kind && bytes_eq m.base id)
    (take l.moved-index l.things))
