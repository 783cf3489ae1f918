use Rattle.std.proofs.Common.{inl, inr, refl}
use Rattle.commands.proofs.working.work_for.Goals as goal

pub returns-in-Some : goal.returns-in-Some
returns-in-Some g c = inr (c.in-Some.work, c.in-Some.ensures.some, c.work_at.ensures)

pub returns-in-None : goal.returns-in-None
returns-in-None g c = inl (c.in-None.ensures.none, refl, refl)
