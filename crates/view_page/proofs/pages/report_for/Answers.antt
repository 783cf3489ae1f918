use Rattle.std.proofs.Common.{inl, inr}
use Rattle.view_page.proofs.pages.report_for.Goals as goal

pub returns-in-Ok : goal.returns-in-Ok
returns-in-Ok g c = inr (
  c.in-Ok.field-0.world,
  c.report_in-ending.result.1.items,
  (c.in-Ok.field-0.strays, c.in-Ok.ensures),
  c.report_in-ending.ensures,
)

pub returns-in-Err : goal.returns-in-Err
returns-in-Err g c = inl (c.in-Err.fault, c.show_fault.ensures)
