-- The point tells which of the two forms it is.
use Rattle.std.proofs.Common.{FitsSigned, w64, ◌+ℤ◌, ◌≡◌, ◌∙◌, ap, rules, arith, None, Some}
use Rattle.std.proofs.lemmas.Int.{ints, to_z-of_z}
use Rattle.command_verbs.specs.Points.{fraction}
use Rattle.command_verbs.proofs.Sizes.{no_size_whole, no_size_front, no_size_back, broken_size}
use Rattle.command_verbs.proofs.points.read_size.Goals as goal

pub returns-in_default-clause-none : goal.returns-in_default-clause-none
returns-in_default-clause-none c = no_size_whole c.read_whole.result c.args.text.now c.in_default.ensures.none
    c.read_whole.ensures.none

pub returns-in_err-whole-clause-none : goal.returns-in_err-whole-clause-none
returns-in_err-whole-clause-none c = no_size_front c.from_residual.result c.args.text.now c.in-Some.front.now
    c.in-Some.digits.now c.in-Some.ensures.some c.in_err-whole.ensures.none

pub returns-in_err-part-clause-none : goal.returns-in_err-part-clause-none
returns-in_err-part-clause-none c =
    let none : fraction c.in-Some.digits.now ≡ None = search rules in
    no_size_back c.from_residual-in_err-part.result c.args.text.now c.in-Some.front.now c.in-Some.digits.now
    c.in-Some.ensures.some none

pub returns-clause-some : goal.returns-clause-some
returns-clause-some c =
    let whole : FitsSigned w64 c.in_ok-whole.whole = search rules in
    let part : FitsSigned w64 c.in_ok-part.part = search rules in
    let low = c.in_ok-whole.ensures.range in
    let small = c.in_ok-part.ensures.range in
    let sum : FitsSigned w64 (c.in_ok-whole.whole +ℤ c.in_ok-part.part) = omega (arith, ints, low, small) in
    let is : fraction c.in-Some.digits.now ≡ Some c.in_ok-part.part = search rules in
    simp to_z-of_z (broken_size c.args.text.now c.in-Some.front.now c.in-Some.digits.now c.in_ok-whole.whole
    c.in_ok-part.part c.in-Some.ensures.some c.in_ok-whole.ensures.some is)
