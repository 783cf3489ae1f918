use Rattle.std.proofs.Common.{◌≡◌, take, not}
use Rattle.std.specs.Prelude.{filter}
use Rattle.std.specs.Ordering.{nat_cmp}
use Rattle.std.specs.Cmp.Lexicographic.{slice_cmp}
use Rattle.std.specs.BTreeSet.{contains}
use Rattle.sheet_types.specs.World.{link_key}
use Rattle.field_changes.proofs.parts.without_keys.Given as goal

-- those so far
abbrev pub invariant-loop-link : goal.invariant-loop-link
invariant-loop-link l = l.left.items ≡ filter (λ k. not (contains (slice_cmp nat_cmp) l.keys (link_key k)))
    (take l.link-index l.links)
