-- A text of no number, or of one below 0, asks for no count.
use Rattle.std.proofs.Common.{◌<ℤ◌, FitsSigned, w64, pos, rules, tests}
use Rattle.views.proofs.CountWords.{below_count, no_count}
use Rattle.views.proofs.excerpts.read_count.Goals as goal

pub returns-in_err-number-clause-none : goal.returns-in_err-number-clause-none
returns-in_err-number-clause-none c = no_count _ c.args.text.now c.in_err-number.ensures.none

pub returns-then-number-lt0-clause-none : goal.returns-then-number-lt0-clause-none
returns-then-number-lt0-clause-none c =
    let fits : FitsSigned w64 c.in_ok-number.number = search rules in
    let low : c.in_ok-number.number <ℤ pos 0 = search (rules, tests) in
    below_count c.args.text.now c.in_ok-number.number fits low c.in_ok-number.ensures.some
