-- Words ask for one archive at most.
use Rattle.commands.proofs.AskedOnce.{asks_read, inits_asked}
use Rattle.commands.proofs.init.init.Goals as goal

pub returns-in-Ok-clause-made : goal.returns-in-Ok-clause-made
returns-in-Ok-clause-made g c = λ uuid moment frame asks.
    inits_asked _ _ _ uuid moment frame asks _ c.in-Ok.rehearsal.archive c.in-Ok.rehearsal.at.now
    c.in-Ok.rehearsal.frame _ _ _ _ _ c.in-Ok.ensures c.make_archive.ensures

pub returns-in-Err-clause-made : goal.returns-in-Err-clause-made
returns-in-Err-clause-made g c = λ uuid moment frame asks.
    absurd (asks_read _ _ _ uuid moment frame asks c.in-Err.what c.in-Err.ensures)
