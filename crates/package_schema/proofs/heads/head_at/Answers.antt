use Rattle.std.proofs.Common.{◌≡◌, rules, true, subst, IsTrue}
use Rattle.std.specs.Prelude.{◌↔◌, IfSome, IfNone}
use Rattle.std.specs.Option.{option_map}
use Rattle.std.specs.Ordering.{on, int_cmp}
use Rattle.sqlite.specs.Effect.{IsDatabase}
use Rattle.store_sql.specs.Writing.{AreKeyed}
use Rattle.sheet_types.specs.Opening.{Head}
use Rattle.store_sql.proofs.Staying.{looks_stays, stays_then}
use Rattle.package_tables.specs.Calls.{AreAll}
use Rattle.package_tables.specs.Form.{IsPlaced}
use Rattle.package_tables.specs.Shape.{rows_of, IsFormed}
use Rattle.package_tables.specs.Shapes.{head_shape}
use Rattle.package_tables.specs.Tables.{sheet_package}
use Rattle.package_schema.specs.Heads.{head_said, version_number, IsHeadOfAt, ReadsHeadAt}
use Rattle.package_schema.proofs.Heading.{head_read}
use Rattle.package_schema.proofs.Seeing.{seen, seen_then, sees, fails}
use Rattle.package_schema.proofs.heads.head_at.Goals as goal

pub returns : goal.returns
returns g c =
    let there : c.in_ok-is_placed.field-0 ≡ true = search rules in
    sees (λ db found. AreKeyed db → ReadsHeadAt (version_number c.args.version) db (option_map head_said found))
    (seen_then (λ db found. IsFormed head_shape db → AreAll (on (λ x. x.id) int_cmp) (rows_of head_shape db)
    found.items) (seen (λ db found. IsDatabase db × (IsTrue found ↔ IsPlaced db.schema sheet_package))
    c.in_ok-is_placed.was c.is_placed.ensures) c.in_ok-rows.was c.head_rows.ensures)
    (λ db told keyed. head_read (version_number c.args.version) (on (λ x. x.id) int_cmp) db told.0.0 keyed
    (told.0.1.0 there) c.in_ok-rows.rows.items told.1 c.read_rows.result
    (subst (λ rows. IfSome c.read_rows.result (λ h. IsHeadOfAt (version_number c.args.version) rows (head_said h)))
    c.deref.ensures.value c.read_rows.ensures.some)
    (subst (λ rows. IfNone c.read_rows.result ((h : Head) → IsHeadOfAt (version_number c.args.version) rows h
    → ⊥))
    c.deref.ensures.value c.read_rows.ensures.none))

-- a look that failed leaves the store as it was too
pub returns-in_err-is_placed : goal.returns-in_err-is_placed
returns-in_err-is_placed g c = fails c.from_residual.result c.from_residual.ensures.0 (looks_stays c.is_placed.ensures)

pub returns-in_err-rows : goal.returns-in_err-rows
returns-in_err-rows g c = fails c.from_residual-in_err-rows.result c.from_residual-in_err-rows.ensures.0
    (stays_then (looks_stays c.is_placed.ensures) (looks_stays c.head_rows.ensures))
