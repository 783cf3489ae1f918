-- No request was read; or it was carried out, or room for its row was wanting.
use Rattle.std.proofs.Common.{inl, inr, refl}
use Rattle.command_desk.proofs.carrying.carry_in.Goals as goal

pub returns-in-Err : goal.returns-in-Err
returns-in-Err g c = inl (c.in-Err.ensures, refl, refl)

pub returns-in-Row : goal.returns-in-Row
returns-in-Row g c = rw c.in-Row.is (elim c.carry_row.ensures [
  | inl x ↦ inl (inl x.0, x.1, x.2)
  | inr is ↦ inr (c.in-Ok.request, c.in-Ok.ensures, is)
])

pub returns-in-Outcome : goal.returns-in-Outcome
returns-in-Outcome g c = rw c.in-Outcome.is (inr (c.in-Ok.request, c.in-Ok.ensures, c.carry_line.ensures))
