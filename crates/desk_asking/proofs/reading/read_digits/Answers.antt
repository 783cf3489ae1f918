-- The text of a number in range parses to it, and is what the buffer then writes.
use Rattle.std.proofs.Common.{◌≡◌, ◌∙◌, Ok, ap, rules, sym}
use Rattle.std.specs.Cmp.Lexicographic.{other_text}
use Rattle.std.specs.Fmt.{decimal}
use Rattle.desk_asking.proofs.Texts.{decimal_parses}
use Rattle.desk_asking.proofs.reading.read_digits.Goals as goal

pub returns-else-eq-clause-none : goal.returns-else-eq-clause-none
returns-else-eq-clause-none c = λ n fits is.
    let ok : c.parse.result ≡ Ok n = decimal_parses n c.args.text.now c.parse.result fits c.parse.ensures.value.0
    is in
    let same : c.in-Ok.number ≡ n = cc in
    let wrote : c.format.result.now ≡ decimal c.in-Ok.number = search rules in
    let text : c.format.result.now ≡ c.args.text.now = wrote ∙ ap decimal same ∙ sym is in
    other_text _ _ (sym c.if-eq.false ∙ c.eq.ensures) text
