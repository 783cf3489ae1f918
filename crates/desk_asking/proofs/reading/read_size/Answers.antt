-- A number's text is text.
use Rattle.desk_asking.proofs.Texts.{decimal_is_text}
use Rattle.desk_asking.proofs.reading.read_size.Goals as goal

pub returns-in_default-clause-none : goal.returns-in_default-clause-none
returns-in_default-clause-none c = λ n fits is. c.in_default.ensures.none (decimal_is_text n c.args.bytes.now fits is)
