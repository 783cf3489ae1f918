use Rattle.std.proofs.Common.{◌≡◌, rules, true, IsTrue}
use Rattle.std.specs.Prelude.{◌↔◌, map}
use Rattle.std.specs.Ordering.{on, int_cmp}
use Rattle.sqlite.specs.Effect.{IsDatabase}
use Rattle.store_sql.specs.Writing.{AreKeyed}
use Rattle.store_sql.proofs.Staying.{looks_stays, stays_then}
use Rattle.package_tables.specs.Calls.{AreAll}
use Rattle.package_tables.specs.Damaged.{ReadsClaims}
use Rattle.package_tables.specs.Form.{IsPlaced}
use Rattle.package_tables.specs.Shape.{rows_of, IsFormed}
use Rattle.package_tables.specs.Shapes.{receipt_shape}
use Rattle.package_tables.specs.Tables.{sheet_receipts}
use Rattle.package_schema.specs.Heads.{claim_said}
use Rattle.package_schema.proofs.Claiming.{claims_read}
use Rattle.package_schema.proofs.Seeing.{seen, seen_then, sees, fails}
use Rattle.package_schema.proofs.claims.claims.Goals as goal

pub returns : goal.returns
returns g c =
    let there : c.in_ok-is_placed.field-0 ≡ true = search rules in
    sees (λ db found. AreKeyed db → ReadsClaims db (map claim_said found.items))
    (seen_then (λ db found. IsFormed receipt_shape db → AreAll (on (λ x. x.seq) int_cmp) (rows_of receipt_shape db)
    found.items) (seen (λ db found. IsDatabase db × (IsTrue found ↔ IsPlaced db.schema sheet_receipts))
    c.in_ok-is_placed.was c.is_placed.ensures) c.in_ok-rows.was c.receipt_rows.ensures)
    (λ db told keyed. claims_read db told.0.0 keyed (told.0.1.0 there) c.in_ok-rows.rows.items told.1
    c.in_ok-claims.claims.items c.in_ok-in_order.field-0.items c.in_ok-claims.ensures c.in_ok-in_order.ensures)

-- a look that failed leaves the store as it was too
pub returns-in_err-is_placed : goal.returns-in_err-is_placed
returns-in_err-is_placed g c = fails c.from_residual.result c.from_residual.ensures.0 (looks_stays c.is_placed.ensures)

pub returns-in_err-rows : goal.returns-in_err-rows
returns-in_err-rows g c = fails c.from_residual-in_err-rows.result c.from_residual-in_err-rows.ensures.0
    (stays_then (looks_stays c.is_placed.ensures) (looks_stays c.receipt_rows.ensures))

pub returns-in_err-claims : goal.returns-in_err-claims
returns-in_err-claims g c = fails c.from_residual-in_err-claims.result c.from_residual-in_err-claims.ensures.0
    (stays_then (looks_stays c.is_placed.ensures) (looks_stays c.receipt_rows.ensures))

pub returns-in_err-in_order : goal.returns-in_err-in_order
returns-in_err-in_order g c = fails c.from_residual-in_err-in_order.result c.from_residual-in_err-in_order.ensures.0
    (stays_then (looks_stays c.is_placed.ensures) (looks_stays c.receipt_rows.ensures))
