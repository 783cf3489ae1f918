use Rattle.std.proofs.Common.{◌∙◌, Ok, IsTrue, pos, ap}
use Rattle.std.specs.Prelude.{◌↔◌}
use Rattle.store_sql.specs.Writing.{AreKeyed}
use Rattle.store_sql.proofs.Staying.{looks_stays, stays_then}
use Rattle.package_tables.specs.Damaged.{AreFormedAt}
use Rattle.package_tables.specs.Package.{tables_of}
use Rattle.package_tables.specs.Shape.{IsFormed}
use Rattle.package_tables.specs.Shapes.{contents_shape}
use Rattle.package_schema.specs.Forms.{HasFirstForm}
use Rattle.package_schema.specs.Frames.{AreDated, ReadsFirstFrame}
use Rattle.package_schema.proofs.Seeing.{seen, seen_then, sees, fails}
use Rattle.opening_v1.specs.Surveying.{ReadsFirstFormed}
use Rattle.opening_v1.proofs.Formed.{no_form, no_frame, good_frame, not_dated, is_read}
use Rattle.opening_v1.proofs.forms.read_first_formed.Goals as goal

pub returns-then-not-branch-clause-looked : goal.returns-then-not-branch-clause-looked
returns-then-not-branch-clause-looked g c =
    sees (λ db found. AreKeyed db → ReadsFirstFormed db found)
    (seen (λ db formed. AreKeyed db → (IsTrue formed ↔ HasFirstForm db)) c.in_ok-has_first_form.was
    c.has_first_form.ensures)
    (λ db told keyed. no_form db c.in_ok-has_first_form.field-0 c.if-not-branch.true (told keyed))

pub returns-in_default-clause-looked : goal.returns-in_default-clause-looked
returns-in_default-clause-looked g c =
    sees (λ db found. AreKeyed db → ReadsFirstFormed db found)
    (seen_then (λ db found. AreFormedAt (pos 1) db → ReadsFirstFrame (tables_of db) found)
    (seen (λ db formed. AreKeyed db → (IsTrue formed ↔ HasFirstForm db)) c.in_ok-has_first_form.was
    c.has_first_form.ensures) (c.in_ok-frame.was ∙ ap Ok c.in_default.is) c.read_first_frame.ensures)
    (λ db told keyed. no_frame db told.1)

pub returns-then-not-is_good-clause-looked : goal.returns-then-not-is_good-clause-looked
returns-then-not-is_good-clause-looked g c =
    sees (λ db found. AreKeyed db → ReadsFirstFormed db found)
    (seen_then (λ db found. AreFormedAt (pos 1) db → ReadsFirstFrame (tables_of db) found)
    (seen (λ db formed. AreKeyed db → (IsTrue formed ↔ HasFirstForm db)) c.in_ok-has_first_form.was
    c.has_first_form.ensures) (c.in_ok-frame.was ∙ ap Ok c.in-Some.is) c.read_first_frame.ensures)
    (λ db told keyed. good_frame db c.in-Some.frame c.in_ok-has_first_form.field-0 c.is_good.result
    c.if-not-branch.false (told.0 keyed) c.if-not-is_good.true c.is_good.ensures told.1)

pub returns-then-not-branch-2-clause-looked : goal.returns-then-not-branch-2-clause-looked
returns-then-not-branch-2-clause-looked g c =
    sees (λ db found. AreKeyed db → ReadsFirstFormed db found)
    (seen_then (λ db dated. IsFormed contents_shape db → (IsTrue dated ↔ AreDated (tables_of db)))
    (seen_then (λ db found. AreFormedAt (pos 1) db → ReadsFirstFrame (tables_of db) found)
    (seen (λ db formed. AreKeyed db → (IsTrue formed ↔ HasFirstForm db)) c.in_ok-has_first_form.was
    c.has_first_form.ensures) (c.in_ok-frame.was ∙ ap Ok c.in-Some.is) c.read_first_frame.ensures)
    c.in_ok-is_dated.was c.is_dated.ensures)
    (λ db told keyed. not_dated db c.in_ok-is_dated.field-0 c.if-not-branch-2.true told.1)

pub returns-in_err-is_dated-clause-looked : goal.returns-in_err-is_dated-clause-looked
returns-in_err-is_dated-clause-looked g c =
    fails c.from_residual-in_err-is_dated.result c.from_residual-in_err-is_dated.ensures.0
    (stays_then (stays_then (looks_stays c.has_first_form.ensures) (looks_stays c.read_first_frame.ensures))
    (looks_stays c.is_dated.ensures))

pub returns-clause-looked : goal.returns-clause-looked
returns-clause-looked g c =
    sees (λ db found. AreKeyed db → ReadsFirstFormed db found)
    (seen_then (λ db dated. IsFormed contents_shape db → (IsTrue dated ↔ AreDated (tables_of db)))
    (seen_then (λ db found. AreFormedAt (pos 1) db → ReadsFirstFrame (tables_of db) found)
    (seen (λ db formed. AreKeyed db → (IsTrue formed ↔ HasFirstForm db)) c.in_ok-has_first_form.was
    c.has_first_form.ensures) (c.in_ok-frame.was ∙ ap Ok c.in-Some.is) c.read_first_frame.ensures)
    c.in_ok-is_dated.was c.is_dated.ensures)
    (λ db told keyed. is_read db c.in-Some.frame c.in_ok-has_first_form.field-0 c.in_ok-is_dated.field-0
    c.if-not-branch.false c.if-not-branch-2.false (told.0.0 keyed) told.0.1 told.1)
