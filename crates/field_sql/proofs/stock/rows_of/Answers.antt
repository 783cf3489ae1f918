use Rattle.std.proofs.Common.{refl}
use Rattle.field_sql.proofs.Texts.{ok_is}
use Rattle.field_sql.proofs.stock.rows_of.Goals as goal

pub returns : goal.returns
returns c = ok_is c.format.result _ _ (rw (
  c.in_ok-geometry.ensures,
  c.in_ok-code.ensures,
  c.in_ok-label.ensures,
  c.in_ok-name.ensures,
) refl) c.format.ensures.ok
