-- Only the text of a UUID in lower case is one, and it is read as that UUID.
use Rattle.std.proofs.Common.{◌≡◌, ap, sym, ◌∙◌, length, arith}
use Rattle.std.proofs.lemmas.Bool.Decides.{Decides-eqb}
use Rattle.std.proofs.lemmas.Slice.Eq.{slice_eq-Decides}
use Rattle.sheet_types.specs.Texts.{uuid_text}
use Rattle.sheet_types.proofs.UuidTexts.{not_36, unread, reads_own}
use Rattle.store_folder.proofs.NameFacts.{reads_one}
use Rattle.store_folder.proofs.names.uuid_of.Goals as goal

pub returns-then-text-ne36-clause-none : goal.returns-then-text-ne36-clause-none
returns-then-text-ne36-clause-none c = λ id fit is.
    let read = reads_own id c.args.text.now fit is in
    let none = not_36 c.args.text.now c.if-text-ne36.true in
    cc (read, none)

pub returns-in_default-clause-none : goal.returns-in_default-clause-none
returns-in_default-clause-none c = λ id fit is.
    let read = reads_own id c.args.text.now fit is in
    let long : length c.args.text.now ≡ 36 = omega arith in
    let none = unread c.try_parse_ascii.result c.in_default.field-0 c.args.text.now c.in_default.is
    c.try_parse_ascii.ensures.ok long in
    cc (read, none)

pub returns-then-eq-clause-some : goal.returns-then-eq-clause-some
returns-then-eq-clause-some c =
    sym ((slice_eq-Decides Decides-eqb _ _ _ c.eq.ensures).0 c.if-eq.true) ∙ c.as_bytes.ensures.value
    ∙ c.encode_lower.ensures.text ∙ ap uuid_text c.hyphenated.ensures

pub returns-then-eq-clause-only : goal.returns-then-eq-clause-only
returns-then-eq-clause-only c = λ other fit is. reads_one c.args.text.now c.in-Ok.id other (omega arith)
    c.in-Ok.ensures.bytes fit is

pub returns-else-eq-clause-none : goal.returns-else-eq-clause-none
returns-else-eq-clause-none c = λ id fit is.
    let same : c.in-Ok.id ≡ id = reads_one c.args.text.now c.in-Ok.id id (omega arith) c.in-Ok.ensures.bytes fit is in
    let text : c.as_bytes.result.now ≡ c.args.text.now =
    c.as_bytes.ensures.value ∙ c.encode_lower.ensures.text ∙ ap uuid_text (c.hyphenated.ensures ∙ same)
    ∙ sym is in
    let equal = (slice_eq-Decides Decides-eqb _ _ _ c.eq.ensures).1 text in
    cc (equal, c.if-eq.false)
