-- The rows that were read are all.
use Rattle.std.proofs.Common.{true, sym, subst, IsTrue}
use Rattle.std.specs.Prelude.{◌↔◌}
use Rattle.store_sql.proofs.Staying.{looks_stays}
use Rattle.package_tables.specs.Calls.{AreThose}
use Rattle.package_tables.specs.Package.{tables_of}
use Rattle.package_tables.specs.Shape.{rows_of, IsFormed}
use Rattle.package_tables.specs.Shapes.{contents_shape}
use Rattle.package_schema.specs.Frames.{AreDated}
use Rattle.package_schema.proofs.Dating.{dated_moved}
use Rattle.package_schema.proofs.Seeing.{seen, sees, fails}
use Rattle.package_schema.proofs.first_frames.is_dated.Goals as goal

pub returns : goal.returns
returns g c =
    sees (λ db dated. IsFormed contents_shape db → (IsTrue dated ↔ AreDated (tables_of db)))
    (seen (λ db found. IsFormed contents_shape db → AreThose (λ _. true) (rows_of contents_shape db) found.items)
    c.in_ok-rows.was c.read_contents.ensures)
    (λ db told formed. dated_moved (tables_of db).contents c.deref.result.now c.have_moments.result
    (subst (AreThose (λ _. true) (tables_of db).contents) (sym c.deref.ensures.value) (told formed))
    c.have_moments.ensures)

-- a look that failed leaves the store as it was too
pub returns-in_err-rows : goal.returns-in_err-rows
returns-in_err-rows g c = fails c.from_residual.result c.from_residual.ensures.0 (looks_stays c.read_contents.ensures)
