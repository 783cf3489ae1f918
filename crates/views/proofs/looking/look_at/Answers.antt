use Rattle.std.proofs.Common.{inl, inr, refl}
use Rattle.views.proofs.looking.look_at.Goals as goal

pub returns-in-Ok : goal.returns-in-Ok
returns-in-Ok g c = inr (
  c.in-Ok.field-0.strays,
  c.in-Ok.field-0.world,
  c.look_in-ending.result.1.items,
  c.in-Ok.ensures,
  c.look_in-ending.ensures,
)

pub returns-in-Err : goal.returns-in-Err
returns-in-Err g c = inl (c.in-Err.fault, c.look_ending.ensures, refl)
