-- What was printed of what was found.
use Rattle.std.proofs.Common.{refl}
use Rattle.command_named.proofs.packages.show_found.Goals as goal

pub returns-in-One : goal.returns-in-One
returns-in-One g c = rw c.in-One.is (rw c.look_of.ensures at c.look_in-ending.ensures, refl)

pub returns-in-Two : goal.returns-in-Two
returns-in-Two g c = rw c.in-Two.is (c.tell_fault-ending.ensures, c.into_stores.ensures, refl)

pub returns-in-Nearest : goal.returns-in-Nearest
returns-in-Nearest g c = rw c.in-Nearest.is
    (refl, refl, c.into_stores-in-Nearest.ensures, rw c.in-Nearest.is at c.hint_of-hint.ensures)
