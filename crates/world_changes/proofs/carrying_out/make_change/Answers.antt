-- Each command's change is that of one call.
use Rattle.sheet_types.specs.declared.command.Command.TheVariants.{Add, Delete, Link, Unlink}
use Rattle.world_members.proofs.Carrying.{change_steps}
use Rattle.world_changes.proofs.carrying_out.make_change.Goals as goal

pub returns-in-Add-clause-steps : goal.returns-in-Add-clause-steps
returns-in-Add-clause-steps g c = change_steps c.args.command.now
    (Add c.in-Add.«package» c.in-Add.identity c.in-Add.content) c.in-Add.is c.add.ensures.steps

pub returns-in-Delete-clause-steps : goal.returns-in-Delete-clause-steps
returns-in-Delete-clause-steps g c = change_steps c.args.command.now
    (Delete c.in-Delete.«package» c.in-Delete.identity) c.in-Delete.is c.delete.ensures.steps

pub returns-in-Link-clause-steps : goal.returns-in-Link-clause-steps
returns-in-Link-clause-steps g c = change_steps c.args.command.now
    (Link c.in-Link.«package» c.in-Link.mapping c.in-Link.base c.in-Link.other) c.in-Link.is
    (rw c.new.ensures at c.link.ensures.steps)

pub returns-in-Unlink-clause-steps : goal.returns-in-Unlink-clause-steps
returns-in-Unlink-clause-steps g c = change_steps c.args.command.now
    (Unlink c.in-Unlink.«package» c.in-Unlink.mapping c.in-Unlink.base c.in-Unlink.other) c.in-Unlink.is
    (rw c.new-in-Unlink.ensures at c.unlink.ensures.steps)
