use Rattle.std.proofs.Common.{inl, inr, refl}
use Rattle.command_named.proofs.looking.named_look_for.Goals as goal

pub returns-in-Ok : goal.returns-in-Ok
returns-in-Ok g c =
    inr (c.in-Ok.field-0.world, c.named_in-ending.result.2.items, (_, c.in-Ok.ensures), c.named_in-ending.ensures)

pub returns-in-Err : goal.returns-in-Err
returns-in-Err g c = inl (c.in-Err.fault, refl, refl, refl)
