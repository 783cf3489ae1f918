-- The text of a number in range parses to it, and is what the buffer then writes.
use Rattle.std.proofs.Common.{◌≡◌, ◌∙◌, ap, sym, rules, Ok}
use Rattle.std.specs.Fmt.{signed_decimal}
use Rattle.sheet_types.proofs.NumberTexts.{reads_back}
use Rattle.sheet_types.proofs.Digits.{same_as_itself}
use Rattle.sheet_types.proofs.reading.read_number.Goals as goal

pub returns-else-eq-clause-none : goal.returns-else-eq-clause-none
returns-else-eq-clause-none c = λ z fits is.
    let ok : c.parse.result ≡ Ok z = reads_back z c.args.text.now c.parse.result fits c.parse.ensures.value.0 is in
    let same : c.in-Ok.number ≡ z = cc in
    let wrote : c.format.result.now ≡ signed_decimal c.in-Ok.number = search rules in
    let text : c.format.result.now ≡ c.args.text.now = wrote ∙ ap signed_decimal same ∙ sym is in
    let no = rw text at (sym c.if-eq.false ∙ c.eq.ensures) in
    cc (no, same_as_itself c.args.text.now)
