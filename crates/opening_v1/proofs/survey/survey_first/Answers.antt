use Rattle.std.proofs.Common.{◌∙◌, Ok, pos, ap, sym, subst}
use Rattle.store_sql.specs.Writing.{AreKeyed}
use Rattle.store_sql.proofs.Staying.{looks_stays, stays_then}
use Rattle.package_tables.specs.Damaged.{AreFormedAt}
use Rattle.package_tables.specs.Package.{tables_of}
use Rattle.package_schema.proofs.Seeing.{seen, seen_then, sees, fails}
use Rattle.opening_v1.specs.Copies.{AreRowsOf}
use Rattle.opening_v1.specs.Surveying.{IsFirstSaid, ReadsFirstFormed}
use Rattle.opening_v1.specs.Views.{IsFirstSeenRight}
use Rattle.opening_v1.proofs.Sighted.{unformed, no_head, misnumbered, copied}
use Rattle.opening_v1.proofs.survey.survey_first.Goals as goal

pub returns-in_default : goal.returns-in_default
returns-in_default g c =
    sees (λ db x. AreKeyed db → IsFirstSeenRight db x) (seen (λ db s. AreKeyed db → IsFirstSaid db s)
    c.in_ok-said.was
    c.read_first_said.ensures)
    (λ db told keyed. unformed db c.in_ok-said.said c.no_frame.result c.without_package.result (told keyed)
    (no_head db c.in_ok-said.said (sym c.head_in.ensures ∙ c.in_default.is) (told keyed))
    c.without_package.ensures)

pub returns-in_default-2 : goal.returns-in_default-2
returns-in_default-2 g c =
    sees (λ db x. AreKeyed db → IsFirstSeenRight db x)
    (seen_then (λ db found. AreKeyed db → ReadsFirstFormed db found)
    (seen (λ db s. AreKeyed db → IsFirstSaid db s) c.in_ok-said.was c.read_first_said.ensures) c.in_ok-frame.was
    c.read_first_formed.ensures.looked)
    (λ db told keyed. unformed db c.in_ok-said.said c.no_frame-in_default-2.result
    c.without_package-in_default-2.result (told.0 keyed)
    (subst (ReadsFirstFormed db) c.in_default-2.is (told.1 keyed)) c.without_package-in_default-2.ensures)

pub returns-in_err-rows : goal.returns-in_err-rows
returns-in_err-rows g c = fails _ c.from_residual-in_err-rows.ensures.0
    (stays_then (stays_then (looks_stays c.read_first_said.ensures) (looks_stays c.read_first_formed.ensures.looked))
    (looks_stays c.read_rows.ensures))

pub returns-then-not-have_numbers : goal.returns-then-not-have_numbers
returns-then-not-have_numbers g c =
    sees (λ db x. AreKeyed db → IsFirstSeenRight db x)
    (seen_then (λ db found. AreFormedAt (pos 1) db → AreRowsOf (tables_of db) found)
    (seen_then (λ db found. AreKeyed db → ReadsFirstFormed db found)
    (seen (λ db s. AreKeyed db → IsFirstSaid db s) c.in_ok-said.was c.read_first_said.ensures)
    (c.in_ok-frame.was ∙ ap Ok c.in-Some-2.is) c.read_first_formed.ensures.looked)
    c.in_ok-rows.was c.read_rows.ensures)
    (λ db told keyed. misnumbered db c.in_ok-said.said c.no_frame-then-not-have_numbers.result c.in_ok-rows.rows
    c.without_package-then-not-have_numbers.result (told.0.0 keyed) told.1
    (sym c.have_numbers.ensures ∙ c.if-not-have_numbers.true) c.without_package-then-not-have_numbers.ensures)

pub returns-in_err-seen : goal.returns-in_err-seen
returns-in_err-seen g c = fails _ c.from_residual-in_err-seen.ensures.0
    (stays_then (stays_then (looks_stays c.read_first_said.ensures) (looks_stays c.read_first_formed.ensures.looked))
    (looks_stays c.read_rows.ensures))

pub returns : goal.returns
returns g c =
    sees (λ db x. AreKeyed db → IsFirstSeenRight db x)
    (seen_then (λ db found. AreFormedAt (pos 1) db → AreRowsOf (tables_of db) found)
    (seen_then (λ db found. AreKeyed db → ReadsFirstFormed db found)
    (seen (λ db s. AreKeyed db → IsFirstSaid db s) c.in_ok-said.was c.read_first_said.ensures)
    (c.in_ok-frame.was ∙ ap Ok c.in-Some-2.is) c.read_first_formed.ensures.looked)
    c.in_ok-rows.was c.read_rows.ensures)
    (λ db told keyed. let read = told.0.1 keyed in
    copied db c.in_ok-said.said c.in-Some.head c.in-Some-2.frame c.in_ok-rows.rows c.in_ok-seen.seen
    (sym c.head_in.ensures ∙ c.in-Some.is) (told.0.0 keyed) read (told.1 read.formed.0) c.in_ok-seen.ensures.order
    c.in_ok-seen.ensures.seen)
