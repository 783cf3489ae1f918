-- The text of a UUID reads as it, and is what it is written as.
use Rattle.std.proofs.Common.{◌≡◌, ap, sym, ◌∙◌}
use Rattle.sheet_types.specs.Texts.{uuid_text}
use Rattle.sheet_types.proofs.UuidTexts.{reads_own}
use Rattle.sheet_types.proofs.Digits.{same_as_itself}
use Rattle.sheet_types.proofs.reading.read_stored_uuid.Goals as goal

pub returns-in_default-clause-none : goal.returns-in_default-clause-none
returns-in_default-clause-none c = λ id h is.
    let read = reads_own id c.args.text.now h is in
    cc (c.in_default.is, c.read_uuid.ensures, read)

pub returns-else-eq-clause-none : goal.returns-else-eq-clause-none
returns-else-eq-clause-none c = λ id h is.
    let read = reads_own id c.args.text.now h is in
    let same : c.in-Some.id ≡ id = cc (c.in-Some.is, c.read_uuid.ensures, read) in
    let text : c.encode_lower.result.now ≡ c.args.text.now =
    c.encode_lower.ensures.text ∙ ap uuid_text (c.hyphenated.ensures ∙ same) ∙ sym is in
    let no = rw text at (sym c.if-eq.false ∙ c.eq.ensures) in
    cc (no, same_as_itself c.args.text.now)
