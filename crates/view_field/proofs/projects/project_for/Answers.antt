use Rattle.std.proofs.Common.{inl, inr, refl, sym}
use Rattle.view_field.proofs.projects.project_for.Goals as goal

pub returns-in-Some : goal.returns-in-Some
returns-in-Some g c = inr (c.in-Some.uuid, sym c.in-Some.ensures, c.project_at.ensures)

pub returns-in-None : goal.returns-in-None
returns-in-None g c = inl (sym c.in-None.ensures, refl, refl)
