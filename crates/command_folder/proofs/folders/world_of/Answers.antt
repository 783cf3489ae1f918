-- So many stores are handed back as are counted; and the number is of the stores that came back.
use Rattle.std.proofs.Common.{refl, sym, rules}
use Rattle.command_folder.proofs.folders.world_of.Goals as goal

pub returns-in-Ok-clause-world : goal.returns-in-Ok-clause-world
returns-in-Ok-clause-world g c =
    record { found = c.in-Ok.field-0; is = c.in-Ok.ensures.stands; same = refl; beside = search rules }

pub returns-in-Err-clause-fault : goal.returns-in-Err-clause-fault
returns-in-Err-clause-fault g c =
    record { refused = c.in-Err.field-0; is = c.in-Err.ensures.fault; tells = c.with_number-told.ensures }
