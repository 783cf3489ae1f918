use Rattle.commands.proofs.init.make_whole.Goals as goal

pub returns-in-Ok-finish-clause-founded : goal.returns-in-Ok-finish-clause-founded
returns-in-Ok-finish-clause-founded c = (_, c.in-Ok-made.ensures)
