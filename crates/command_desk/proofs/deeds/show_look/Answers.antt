-- The stores beside are counted, or memory was wanting.
use Rattle.std.proofs.Common.{inl, inr, refl}
use Rattle.command_desk.proofs.deeds.show_look.Goals as goal

pub returns-in-Ok : goal.returns-in-Ok
returns-in-Ok g c = inl (c.in-Ok.strays, c.in-Ok.ensures, c.look_over.ensures)

pub returns-in-Err : goal.returns-in-Err
returns-in-Err g c = inr (c.in-Err.fault, c.fault_ending.ensures, refl, refl)
