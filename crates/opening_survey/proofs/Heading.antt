-- The row of a head is that of a package which has it.
use Rattle.std.proofs.Common.{◌≡◌, ℕ, List, true, Option, Some, None, refl}
use Rattle.std.specs.Prelude.{MatchOption, ⊤}
use Rattle.sheet_types.specs.Lines.{IsUuid}
use Rattle.sheet_types.specs.Opening.{Head}
use Rattle.package_tables.specs.Creation.{head_of}
use Rattle.package_tables.specs.declared.rows.HeadRow.{HeadRow}
use Rattle.identity_register.specs.Reads.{IsFitHead, is_fit_end}
use Rattle.package_schema.specs.Heads.{IsHeadRow}

fit_parent : (parent : Option (List ℕ)) → MatchOption parent ⊤ IsUuid → is_fit_end parent ≡ true
fit_parent None h = refl
fit_parent (Some id) h = h

-- its UUIDs are such
pub fit_head : (row : HeadRow) (head : Head) → IsHeadRow row head → IsFitHead head.uuid head.parent
fit_head row head is = record { uuid = is.uuid; parent = fit_parent head.parent is.parent_uuid }

pub row_is : (row : HeadRow) (head : Head) → IsHeadRow row head
    → row ≡ head_of head.uuid head.parent head.depth head.loan row.created
row_is row head is = λ n. record {
  id = is.id n;
  version = is.version n;
  «package» = is.package n;
  parent = is.parent n;
  depth = is.depth n;
  loan = is.loan n;
  created = row.created;
}
