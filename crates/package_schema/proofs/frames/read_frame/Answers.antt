use Rattle.store_sql.proofs.Staying.{looks_stays}
use Rattle.package_tables.specs.Package.{tables_of, AreFormed}
use Rattle.package_schema.specs.Frames.{AreRead, ReadsFrame}
use Rattle.package_schema.proofs.Framing.{frame_read}
use Rattle.package_schema.proofs.Seeing.{seen, sees, fails}
use Rattle.package_schema.proofs.frames.read_frame.Goals as goal

pub returns : goal.returns
returns g c =
    sees (λ db found. AreFormed db → ReadsFrame (tables_of db) found)
    (seen (λ db found. AreFormed db → AreRead (tables_of db) found) c.in_ok-found.was c.read_rows.ensures)
    (λ db told formed. frame_read db c.in_ok-found.found (told formed) c.in_ok-frame_of.field-0
    c.in_ok-frame_of.ensures)

-- a look that failed leaves the store as it was too
pub returns-in_err-found : goal.returns-in_err-found
returns-in_err-found g c = fails c.from_residual.result c.from_residual.ensures.0 (looks_stays c.read_rows.ensures)

pub returns-in_err-frame_of : goal.returns-in_err-frame_of
returns-in_err-frame_of g c = fails c.from_residual-in_err-frame_of.result c.from_residual-in_err-frame_of.ensures.0
    (looks_stays c.read_rows.ensures)
