use Rattle.std.proofs.Common.{◌≡◌, ℕ, List, take}
use Rattle.std.specs.Ordering.{nat_cmp}
use Rattle.std.specs.Cmp.Lexicographic.{slice_cmp}
use Rattle.std.specs.BTreeSet.{contains}
use Rattle.sheet_types.specs.Ordered.{has}
use Rattle.sheet_types.specs.World.{link_key}
use Rattle.field_changes.proofs.parts.keys_of.Given as goal

-- those so far
abbrev pub invariant-loop-link : goal.invariant-loop-link
invariant-loop-link l = (q : List ℕ) → contains (slice_cmp nat_cmp) l.keys q
    ≡ has link_key q (take l.link-index l.links)
