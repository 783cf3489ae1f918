use Rattle.std.proofs.Common.{inl, inr, refl}
use Rattle.command_ordering.proofs.naming.package_for.Goals as goal

pub returns-in-Ok : goal.returns-in-Ok
returns-in-Ok g c = inr (c.in-Ok.field-0.world, (_, c.in-Ok.ensures), c.package_in-named.ensures)

pub returns-in-Err : goal.returns-in-Err
returns-in-Err g c = inl (c.in-Err.fault, refl, refl, refl)
