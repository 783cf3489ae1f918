use Rattle.sqlite.specs.Held.{state}
use Rattle.transfer.specs.Parcels.{names_of}
use Rattle.transfer.proofs.Carrying.{taken_from, too_much_from}
use Rattle.transfer.proofs.pages.carry_over.Goals as goal

pub returns-in-Ok-true-clause-steps : goal.returns-in-Ok-true-clause-steps
returns-in-Ok-true-clause-steps g c =
    taken_from (names_of c.args.selection.now) c.in-Ok-true.field-0 (state g.S.Store c.args.source.now)
    (state g.S.Store c.carry_each.new.source) tt c.in-Ok-true.field-0-test c.in-Ok-true.ensures.steps

pub returns-in-Ok-false-clause-too_many : goal.returns-in-Ok-false-clause-too_many
returns-in-Ok-false-clause-too_many g c is =
    too_much_from (names_of c.args.selection.now) c.in-Ok-false.field-0 (state g.S.Store c.args.source.now)
    (state g.S.Store c.carry_each.new.source) c.in-Ok-false.field-0-test c.in-Ok-false.ensures.steps
