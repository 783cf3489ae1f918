-- The ending is that of what was written.
use Rattle.std.proofs.Common.{Ok, Err, refl}
use Rattle.views.proofs.exporting.export_in.Goals as goal

pub returns-in-Ok : goal.returns-in-Ok
returns-in-Ok g c = (
  Ok c.in-Ok.field-0,
  refl,
  c.in-Ok.ensures.read,
  c.in-Ok.ensures.written,
  c.in-Ok.ensures.unknown,
  c.in-Ok.ensures.opens,
)

pub returns-in-Err : goal.returns-in-Err
returns-in-Err g c = (
  Err c.in-Err.fault,
  c.end_of_export.ensures,
  c.in-Err.ensures.read,
  c.in-Err.ensures.written,
  c.in-Err.ensures.unknown,
  c.in-Err.ensures.opens,
)
