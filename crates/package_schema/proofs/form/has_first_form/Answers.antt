use Rattle.std.proofs.Common.{◌≡◌, rules, true, false, IsTrue}
use Rattle.std.specs.Prelude.{◌↔◌}
use Rattle.sqlite.specs.Effect.{IsDatabase}
use Rattle.store_sql.specs.Writing.{AreKeyed}
use Rattle.store_sql.proofs.Staying.{looks_stays, stays_then}
use Rattle.package_tables.specs.Shapes.{contents_shape, spatial_ref_sys_shape}
use Rattle.package_schema.specs.Forms.{HasFirstForm}
use Rattle.package_schema.specs.Placing.{AreFirstPlaced}
use Rattle.package_schema.specs.Rows.{AreFilled}
use Rattle.package_schema.proofs.Seeing.{seen, seen_then, sees, sees_last, fails}
use Rattle.package_schema.proofs.Whole.{first_not_filled, first_tells}
use Rattle.package_schema.proofs.form.has_first_form.Goals as goal

pub returns-then-not-branch-2 : goal.returns-then-not-branch-2
returns-then-not-branch-2 g c =
    let missing : c.in_ok-are_systems_filled.field-0 ≡ false = search rules in
    sees (λ db formed. AreKeyed db → (IsTrue formed ↔ HasFirstForm db))
    (seen_then (λ db filled. AreKeyed db → AreFilled spatial_ref_sys_shape db filled)
    (seen (λ db found. IsDatabase db × (IsTrue found ↔ AreFirstPlaced db.schema)) c.in_ok-are_first_placed.was
    c.are_first_placed.ensures) c.in_ok-are_systems_filled.was c.are_systems_filled.ensures)
    (λ db tried. first_not_filled db c.in_ok-are_first_placed.field-0 c.in_ok-are_systems_filled.field-0 tried missing)

pub returns : goal.returns
returns g c =
    let there : c.in_ok-are_first_placed.field-0 ≡ true = search rules in
    let has : c.in_ok-are_systems_filled.field-0 ≡ true = search rules in
    sees_last (λ db filled. AreKeyed db → AreFilled contents_shape db filled)
    (λ db formed. AreKeyed db → (IsTrue formed ↔ HasFirstForm db)) c.are_contents_filled.result
    (seen_then (λ db filled. AreKeyed db → AreFilled spatial_ref_sys_shape db filled)
    (seen (λ db found. IsDatabase db × (IsTrue found ↔ AreFirstPlaced db.schema)) c.in_ok-are_first_placed.was
    c.are_first_placed.ensures) c.in_ok-are_systems_filled.was c.are_systems_filled.ensures)
    c.are_contents_filled.ensures
    (λ db full tried last. first_tells db c.in_ok-are_first_placed.field-0 c.in_ok-are_systems_filled.field-0 full
    tried there has last)

-- a look that failed leaves the store as it was too
pub returns-in_err-are_first_placed : goal.returns-in_err-are_first_placed
returns-in_err-are_first_placed g c = fails c.from_residual.result c.from_residual.ensures.0
    (looks_stays c.are_first_placed.ensures)

pub returns-in_err-are_systems_filled : goal.returns-in_err-are_systems_filled
returns-in_err-are_systems_filled g c = fails c.from_residual-in_err-are_systems_filled.result
    c.from_residual-in_err-are_systems_filled.ensures.0 (stays_then (looks_stays c.are_first_placed.ensures)
    (looks_stays c.are_systems_filled.ensures))
