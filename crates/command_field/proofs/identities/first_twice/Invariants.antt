use Rattle.std.proofs.Common.{◌≡◌, ℕ, List, take, false}
use Rattle.std.specs.Ordering.{nat_cmp}
use Rattle.std.specs.Cmp.Lexicographic.{slice_cmp}
use Rattle.std.specs.BTreeSet.{contains}
use Rattle.sheet_types.specs.Ordered.{is_among}
use Rattle.field_run_laws.specs.Lists.{has_twice}
use Rattle.command_field.proofs.identities.first_twice.Given as goal

-- those so far are in the set, and none of them is there twice
abbrev pub invariant-loop-id : goal.invariant-loop-id
invariant-loop-id l = record {
  seen : (q : List ℕ) → contains (slice_cmp nat_cmp) l.seen q ≡ is_among (take l.id-index l.ids) q;
  apart : has_twice (take l.id-index l.ids) ≡ false;
}
