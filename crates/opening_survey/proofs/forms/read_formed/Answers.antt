use Rattle.std.proofs.Common.{◌∙◌, Ok, IsTrue, ap}
use Rattle.std.specs.Prelude.{◌↔◌, MatchOption}
use Rattle.store_sql.specs.Writing.{AreKeyed}
use Rattle.store_sql.proofs.Staying.{looks_stays, stays_then}
use Rattle.package_tables.specs.Package.{tables_of, AreFormed}
use Rattle.package_schema.proofs.Seeing.{seen, seen_then, sees, fails}
use Rattle.package_receipts.specs.Ranges.{AreReceiptsInRange}
use Rattle.package_receipts.specs.Read.{AreSaid}
use Rattle.opening_survey.specs.Looks.{ReadsFramed}
use Rattle.opening_survey.specs.Surveying.{ReadsFormed}
use Rattle.opening_survey.proofs.Framing.{no_form, framed_not, no_receipts, is_read}
use Rattle.opening_survey.proofs.forms.read_formed.Goals as goal

pub returns-then-not-branch : goal.returns-then-not-branch
returns-then-not-branch g c =
    sees (λ db found. AreKeyed db → ReadsFormed db found) (seen
    (λ db formed. AreKeyed db → (IsTrue formed ↔ AreFormed db)) c.in_ok-has_form.was c.has_form.ensures)
    (λ db told keyed. no_form db c.in_ok-has_form.field-0 c.if-not-branch.true (told keyed))

pub returns-in_default : goal.returns-in_default
returns-in_default g c =
    sees (λ db found. AreKeyed db → ReadsFormed db found)
    (seen_then (λ db found. AreFormed db → ReadsFramed (tables_of db) found)
    (seen (λ db formed. AreKeyed db → (IsTrue formed ↔ AreFormed db)) c.in_ok-has_form.was c.has_form.ensures)
    (c.in_ok-frame.was ∙ ap Ok c.in_default.is) c.read_good_frame.ensures)
    (λ db told keyed. framed_not db told.1)

pub returns-in_default-2 : goal.returns-in_default-2
returns-in_default-2 g c =
    sees (λ db found. AreKeyed db → ReadsFormed db found)
    (seen_then (λ db found. AreFormed db → MatchOption found
    (AreReceiptsInRange (tables_of db).receipts (tables_of db).moved → ⊥)
    (λ entered. AreSaid (tables_of db) entered.items))
    (seen_then (λ db found. AreFormed db → ReadsFramed (tables_of db) found)
    (seen (λ db formed. AreKeyed db → (IsTrue formed ↔ AreFormed db)) c.in_ok-has_form.was c.has_form.ensures)
    (c.in_ok-frame.was ∙ ap Ok c.in-Some.is) c.read_good_frame.ensures)
    (c.in_ok-receipts.was ∙ ap Ok c.in_default-2.is) c.receipts.ensures)
    (λ db told keyed. no_receipts db told.1)

pub returns-in_err-receipts : goal.returns-in_err-receipts
returns-in_err-receipts g c = fails c.from_residual-in_err-receipts.result c.from_residual-in_err-receipts.ensures.0
    (stays_then (stays_then (looks_stays c.has_form.ensures) (looks_stays c.read_good_frame.ensures))
    (looks_stays c.receipts.ensures))

pub returns : goal.returns
returns g c =
    sees (λ db found. AreKeyed db → ReadsFormed db found)
    (seen_then (λ db found. AreFormed db → MatchOption found
    (AreReceiptsInRange (tables_of db).receipts (tables_of db).moved → ⊥)
    (λ entered. AreSaid (tables_of db) entered.items))
    (seen_then (λ db found. AreFormed db → ReadsFramed (tables_of db) found)
    (seen (λ db formed. AreKeyed db → (IsTrue formed ↔ AreFormed db)) c.in_ok-has_form.was c.has_form.ensures)
    (c.in_ok-frame.was ∙ ap Ok c.in-Some.is) c.read_good_frame.ensures)
    (c.in_ok-receipts.was ∙ ap Ok c.in-Some-2.is) c.receipts.ensures)
    (λ db told keyed. is_read db (record { frame = c.in-Some.frame; receipts = c.in-Some-2.receipts })
    c.in_ok-has_form.field-0 c.if-not-branch.false (told.0.0 keyed) told.0.1 told.1)
