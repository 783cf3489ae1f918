-- Of which frame a store of the first version is formed, test by test.
use Rattle.std.proofs.Common.{◌≡◌, ◌∙◌, Bool, true, false, Some, None, IsTrue, pos, sym}
use Rattle.std.specs.Prelude.{◌↔◌}
use Rattle.std.proofs.lemmas.Bool.{false≢true}
use Rattle.sqlite.specs.Effect.{Database}
use Rattle.sheet_types.specs.Matrix.{is_good_frame}
use Rattle.sheet_types.specs.declared.frame.Frame.{Frame}
use Rattle.package_tables.specs.Damaged.{AreFormedAt}
use Rattle.package_tables.specs.Package.{tables_of}
use Rattle.package_tables.specs.Shape.{IsFormed}
use Rattle.package_tables.specs.Shapes.{contents_shape}
use Rattle.package_schema.specs.Forms.{HasFirstForm}
use Rattle.package_schema.specs.Frames.{AreDated, ReadsFirstFrame}
use Rattle.opening_v1.specs.Surveying.{ReadsFirstFormed}

pub no_form : (db : Database) (formed : Bool) → formed ≡ false → (IsTrue formed ↔ HasFirstForm db)
    → ReadsFirstFormed db None
no_form db formed lacks tests = λ whole. false≢true (sym lacks ∙ tests.1 whole.1.formed)

pub no_frame : (db : Database) → (AreFormedAt (pos 1) db → ReadsFirstFrame (tables_of db) None)
    → ReadsFirstFormed db None
no_frame db none = λ whole. none whole.1.formed.0 whole.0 whole.1.frame

-- the frame that was read is good
pub good_frame : (db : Database) (frame : Frame) (formed good : Bool) → formed ≡ true
    → (IsTrue formed ↔ HasFirstForm db) → good ≡ false → (IsTrue good ↔ IsTrue (is_good_frame frame))
    → (AreFormedAt (pos 1) db → ReadsFirstFrame (tables_of db) (Some frame)) → ReadsFirstFormed db None
good_frame db frame formed good has form not_good tests read =
    absurd (false≢true (sym not_good ∙ tests.1 (read (form.0 has).0).0))

pub not_dated : (db : Database) (dated : Bool) → dated ≡ false
    → (IsFormed contents_shape db → (IsTrue dated ↔ AreDated (tables_of db))) → ReadsFirstFormed db None
not_dated db dated lacks tests = λ whole. false≢true (sym lacks
    ∙ (tests whole.1.formed.0.contents).1 whole.1.dated)

pub is_read : (db : Database) (frame : Frame) (formed dated : Bool) → formed ≡ true → dated ≡ true
    → (IsTrue formed ↔ HasFirstForm db) → (AreFormedAt (pos 1) db → ReadsFirstFrame (tables_of db) (Some frame))
    → (IsFormed contents_shape db → (IsTrue dated ↔ AreDated (tables_of db))) → ReadsFirstFormed db (Some frame)
is_read db frame formed dated has there form read tests =
    let it : HasFirstForm db = form.0 has in
    record { formed = it; frame = read it.0; dated = (tests it.0.contents).0 there }
