-- Of which frame a store is formed, test by test.
use Rattle.std.proofs.Common.{◌≡◌, ◌∙◌, Bool, true, false, Some, None, IsTrue, sym, subst}
use Rattle.std.specs.Prelude.{◌↔◌}
use Rattle.std.proofs.lemmas.Bool.{false≢true}
use Rattle.sqlite.specs.Effect.{Database}
use Rattle.sheet_types.specs.Matrix.{is_good_frame}
use Rattle.sheet_types.specs.declared.frame.Frame.{Frame}
use Rattle.package_tables.specs.Package.{Tables, tables_of, AreFormed}
use Rattle.package_schema.specs.Frames.{AreDated, ReadsFrame}
use Rattle.package_items.specs.Answers.{Decides}
use Rattle.package_items.specs.Ranges.{AreItemsInRange}
use Rattle.package_receipts.specs.Ranges.{AreReceiptsInRange}
use Rattle.package_receipts.specs.Read.{AreSaid}
use Rattle.opening_survey.specs.Looks.{IsFramed, ReadsFramed}
use Rattle.opening_survey.specs.Surveying.{IsRead}
use Rattle.opening_survey.specs.Views.{IsFormed}
use Rattle.opening_survey.specs.declared.forms.Formed.{Formed}
use Rattle.opening_survey.proofs.OneFrame.{one_frame}

-- ---- the frame

pub no_frame : (t : Tables) → ReadsFrame t None → ReadsFramed t None
no_frame t none = λ f is. none f is.frame

-- the frame that was read is good
pub good_frame : (t : Tables) (frame : Frame) (good : Bool) → good ≡ false
    → (IsTrue good ↔ IsTrue (is_good_frame frame)) → ReadsFrame t (Some frame) → ReadsFramed t None
good_frame t frame good not_good tests has = absurd (false≢true (sym not_good ∙ tests.1 has.0))

pub not_dated : (t : Tables) (dated : Bool) → dated ≡ false → (IsTrue dated ↔ AreDated t) → ReadsFramed t None
not_dated t dated lacks tests = λ f is. false≢true (sym lacks ∙ tests.1 is.dated)

-- no other frame has these fixed rows
pub not_in_range : (t : Tables) (frame : Frame) (answer : Bool) → answer ≡ false → ReadsFrame t (Some frame)
    → Decides (AreItemsInRange frame t) answer → ReadsFramed t None
not_in_range t frame answer lacks has told = λ f is. subst (λ b. Decides (AreItemsInRange frame t) b) lacks told
    (subst (λ g. AreItemsInRange g t) (one_frame f frame t is.frame.0 has.0 is.frame.1 has.1) is.items)

pub is_framed : (t : Tables) (frame : Frame) (dated answer : Bool) → dated ≡ true → answer ≡ true
    → ReadsFrame t (Some frame) → (IsTrue dated ↔ AreDated t) → Decides (AreItemsInRange frame t) answer
    → ReadsFramed t (Some frame)
is_framed t frame dated answer all there has tests told = record
    { frame = has; dated = tests.0 all; items = subst (λ b. Decides (AreItemsInRange frame t) b) there told }

-- ---- all tables

pub no_form : (db : Database) (formed : Bool) → formed ≡ false → (IsTrue formed ↔ AreFormed db)
    → IsFormed db → ⊥
no_form db formed lacks tests is = false≢true (sym lacks ∙ tests.1 is.1.formed)

pub framed_not : (db : Database) → (AreFormed db → ReadsFramed (tables_of db) None) → IsFormed db → ⊥
framed_not db none is = none is.1.formed is.0 (record { frame = is.1.frame; dated = is.1.dated; items = is.1.items })

pub no_receipts : (db : Database) → (AreFormed db → AreReceiptsInRange (tables_of db).receipts (tables_of db).moved
    → ⊥) → IsFormed db → ⊥
no_receipts db none is = none is.1.formed is.1.receipts

pub is_read : (db : Database) (x : Formed) (formed : Bool) → formed ≡ true → (IsTrue formed ↔ AreFormed db)
    → (AreFormed db → IsFramed x.frame (tables_of db)) → (AreFormed db
    → AreSaid (tables_of db) x.receipts.items)
    → IsRead x db
is_read db x formed all tests framed said = let is = tests.0 all in record
    { formed = is; framed = framed is; receipts = said is }
