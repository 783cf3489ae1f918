use Rattle.std.proofs.Common.{inl, inr, refl}
use Rattle.commands.proofs.tidying.tidy_at.Goals as goal

pub returns-in-Ok : goal.returns-in-Ok
returns-in-Ok g c = inr (
  c.in-Ok.field-0.world,
  c.tidy_in-ending.result.1.items,
  (_, c.in-Ok.ensures),
  c.tidy_in-ending.ensures,
)

pub returns-in-Err : goal.returns-in-Err
returns-in-Err g c = inl (c.in-Err.fault, refl, refl, refl)
