-- The minus tells which of the two forms it is.
use Rattle.std.proofs.Common.{FitsSigned, w64, pos, ◌-ℤ◌, rules, arith}
use Rattle.std.proofs.lemmas.Int.{ints, to_z-of_z}
use Rattle.command_verbs.proofs.Units.{empty_is, not_empty, no_units_alone, no_units_behind, no_units_minus}
use Rattle.command_verbs.proofs.Units.{units_minus, units_of_size}
use Rattle.command_verbs.proofs.points.read_units.Goals as goal

pub returns-in_default-clause-some : goal.returns-in_default-clause-some
returns-in_default-clause-some c = units_of_size c.read_size.result c.args.text.now c.read_size.ensures.some

pub returns-in_default-clause-none : goal.returns-in_default-clause-none
returns-in_default-clause-none c = no_units_alone c.read_size.result c.args.text.now c.in_default.ensures.none
    c.read_size.ensures.none

pub returns-in_err-size-clause-none : goal.returns-in_err-size-clause-none
returns-in_err-size-clause-none c = no_units_minus c.from_residual.result c.args.text.now c.in-Some.front.now
    c.in-Some.rest.now c.in-Some.ensures.some c.in_err-size.ensures.none

pub returns-then-not-is_empty-clause-none : goal.returns-then-not-is_empty-clause-none
returns-then-not-is_empty-clause-none c =
    no_units_behind c.args.text.now c.in-Some.front.now c.in-Some.rest.now c.in-Some.ensures.some
    (not_empty c.in-Some.front.now c.is_empty.result c.is_empty.ensures (search rules))

pub returns-clause-some : goal.returns-clause-some
returns-clause-some c =
    let fits : FitsSigned w64 c.in_ok-size.size = search rules in
    let range = c.in_ok-size.ensures.range in
    let less : FitsSigned w64 (pos 0 -ℤ c.in_ok-size.size) = omega (arith, ints, range) in
    simp to_z-of_z (units_minus c.args.text.now c.in-Some.front.now c.in-Some.rest.now c.in_ok-size.size
    c.in-Some.ensures.some
    (empty_is c.in-Some.front.now c.is_empty.result c.is_empty.ensures (search rules)) c.in_ok-size.ensures.some)
