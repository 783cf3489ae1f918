use Rattle.command_named.proofs.ways.tell_found.Goals as goal

pub returns-in-Two : goal.returns-in-Two
returns-in-Two g c = rw c.in-Two.is c.tell_fault.ensures
