-- A number has no comma, so the text is cut behind it.
use Rattle.std.proofs.Common.{lit<}
use Rattle.sheet_types.proofs.Commas.{has_comma, before_comma}
use Rattle.sheet_types.proofs.reading.next_number.Goals as goal

pub returns-in_default-clause-none : goal.returns-in_default-clause-none
returns-in_default-clause-none c = λ z rest fits is. has_comma z rest c.args.text.now is
    (c.in_default.ensures.byte (lit< tt) (λ w o h. h))

pub returns-in-None-clause-none : goal.returns-in-None-clause-none
returns-in-None-clause-none c = λ z rest fits is.
    let cut = c.in-Some.ensures.byte (lit< tt) (λ w o h. h) in
    c.in-None.ensures.none z fits (before_comma z rest c.args.text.now c.in-Some.front.now is cut.0)
