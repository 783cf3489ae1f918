-- A text is that of one number at most.
use Rattle.std.proofs.Common.{◌≤ℤ◌, ◌<ℤ◌, ℤ, pos, FitsSigned, w64, inl, inr, rules, arith}
use Rattle.command_words.proofs.NumberTexts.{no_number, other_number}
use Rattle.command_words.proofs.arguments.read_count.Goals.{then-number-lt1-via-then-number-lt1}
use Rattle.command_words.proofs.arguments.read_count.Goals.{then-number-lt1-via-else-number-lt1+then-number-gt1000000}
use Rattle.command_words.proofs.arguments.read_count.Goals as goal

pub returns-in_err-number-clause-none : goal.returns-in_err-number-clause-none
returns-in_err-number-clause-none c = no_number c.from_residual.result 1 1000000 c.args.text.now (omega arith)
    c.in_err-number.ensures.none

pub returns-then-number-lt1-clause-none : goal.returns-then-number-lt1-clause-none
returns-then-number-lt1-clause-none c =
    let known : FitsSigned w64 c.in_ok-number.number = search rules in
    other_number c.in_ok-number.number 1 1000000 c.args.text.now known (omega arith) c.in_ok-number.ensures.some
    (elim c.then-number-lt1.branch [
      | then-number-lt1-via-then-number-lt1 w ↦ inl (search rules)
      | then-number-lt1-via-else-number-lt1+then-number-gt1000000 w ↦ inr (search rules)
    ])
