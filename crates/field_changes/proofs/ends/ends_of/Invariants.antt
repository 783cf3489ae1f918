use Rattle.std.proofs.Common.{◌≡◌, ℕ, List, take, bytes_eq}
use Rattle.std.specs.Prelude.{option_map}
use Rattle.std.specs.Ordering.{nat_cmp}
use Rattle.std.specs.Cmp.Lexicographic.{slice_cmp}
use Rattle.std.specs.BTreeMap.{get}
use Rattle.sheet_types.specs.Ordered.{last_where}
use Rattle.field_changes.specs.Keys.{number_key}
use Rattle.field_changes.proofs.ends.ends_of.Given as goal

-- those so far
abbrev pub invariant-loop-name : goal.invariant-loop-name
invariant-loop-name l = (q : List ℕ) → get (slice_cmp nat_cmp) l.ends q
    ≡ option_map (λ n. n.identity) (last_where (λ n. bytes_eq (number_key n.kind n.number) q)
    (take l.name-index l.names))
