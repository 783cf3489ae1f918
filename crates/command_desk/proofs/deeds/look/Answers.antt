use Rattle.std.proofs.Common.{inl, inr, refl}
use Rattle.command_desk.proofs.deeds.look.Goals as goal

pub returns-in-Ok : goal.returns-in-Ok
returns-in-Ok g c = inr (c.in-Ok.look, c.in-Ok.ensures, c.show_look.ensures)

pub returns-in-Err : goal.returns-in-Err
returns-in-Err g c = inl (c.in-Err.what, c.in-Err.ensures, refl, refl, refl)
