-- A number below 0 is no size.
use Rattle.std.specs.Prelude.{◌≡◌, true, pos, FitsSigned}
use Rattle.std.proofs.Common.{ap, sym, subst, ◌∙◌, rules, arith}
use Rattle.std.specs.Int.{w64}
use Rattle.std.proofs.lemmas.Int.{to_z-of_z, ints}
use Rattle.sheet_ledger.proofs.Slots.{number_of_size, no_size_below}
use Rattle.sheet_ledger.proofs.entries.read_size.Goals as goal

pub returns-in_default-clause-none : goal.returns-in_default-clause-none
returns-in_default-clause-none c = number_of_size c.args.text.now c.in_default.ensures.none

pub returns-then-number-lt0-clause-none : goal.returns-then-number-lt0-clause-none
returns-then-number-lt0-clause-none c =
    let f : FitsSigned w64 c.in-Some.number = search rules in
    no_size_below c.in-Some.number c.args.text.now c.in-Some.ensures.some c.in-Some.ensures.fit
    (simp to_z-of_z at c.if-number-lt0.true)
