-- Both of two were told; of none what comes nearest.
use Rattle.std.proofs.Common.{refl}
use Rattle.command_ordering.proofs.naming.tell_found.Goals as goal

pub returns-in-Two : goal.returns-in-Two
returns-in-Two g c = rw c.in-Two.is (c.tell_fault-ending.result, refl, refl, c.tell_fault-ending.ensures)

pub returns-in-Nearest : goal.returns-in-Nearest
returns-in-Nearest g c = rw c.in-Nearest.is (refl, rw c.in-Nearest.is at c.hint_of-hint.ensures, refl)
