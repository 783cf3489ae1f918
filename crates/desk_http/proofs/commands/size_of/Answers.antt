-- What is no decimal number within the limit is no size.
use Rattle.std.proofs.Common.{◌≡◌, FitsSigned, rules, w64}
use Rattle.std.proofs.lemmas.Int.{to_z-of_z}
use Rattle.desk_http.proofs.Barring.{negative, no_number, no_text, too_large}
use Rattle.desk_http.proofs.commands.size_of.Goals as goal

pub returns-in_default-clause-none : goal.returns-in_default-clause-none
returns-in_default-clause-none c = no_text c.args.text.now (c.in_default.ensures.cases.0)

pub returns-in_default-read_number-clause-none : goal.returns-in_default-read_number-clause-none
returns-in_default-read_number-clause-none c =
    let same : c.in-Ok.digits.now ≡ c.args.text.now = search rules in
    no_number c.args.text.now (rw same at c.in_default-read_number.ensures.none)

pub returns-then-size-lt0-clause-none : goal.returns-then-size-lt0-clause-none
returns-then-size-lt0-clause-none c =
    let same : c.in-Ok.digits.now ≡ c.args.text.now = search rules in
    let fits : FitsSigned w64 c.in-Some.size = search rules in
    negative c.args.text.now c.in-Some.size (rw same at c.in-Some.ensures.some) fits
    (simp (to_z-of_z, fits) at c.if-size-lt0.true)

pub returns-then-size-gt-MOST_BODY-clause-none : goal.returns-then-size-gt-MOST_BODY-clause-none
returns-then-size-gt-MOST_BODY-clause-none c =
    let same : c.in-Ok.digits.now ≡ c.args.text.now = search rules in
    let fits : FitsSigned w64 c.in-Some.size = search rules in
    too_large c.args.text.now c.in-Some.size (rw same at c.in-Some.ensures.some) fits
    (simp (to_z-of_z, fits) at c.if-size-gt-MOST_BODY.true)
