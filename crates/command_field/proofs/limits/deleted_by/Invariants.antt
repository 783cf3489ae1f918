use Rattle.std.proofs.Common.{◌≡◌, ℕ, List, take}
use Rattle.std.specs.Ordering.{nat_cmp}
use Rattle.std.specs.Cmp.Lexicographic.{slice_cmp}
use Rattle.std.specs.BTreeSet.{contains}
use Rattle.sheet_types.specs.Ordered.{is_among}
use Rattle.field_home_laws.specs.Free.{ids_deleted}
use Rattle.command_field.proofs.limits.deleted_by.Given as goal

-- those of the requests so far
abbrev pub invariant-loop-request : goal.invariant-loop-request
invariant-loop-request l = (id : List ℕ) → contains (slice_cmp nat_cmp) l.gone id
    ≡ is_among (ids_deleted (take l.request-index l.requests)) id
