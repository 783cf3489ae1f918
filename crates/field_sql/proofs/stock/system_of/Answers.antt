use Rattle.std.proofs.Common.{refl}
use Rattle.field_sql.proofs.Texts.{ok_is}
use Rattle.field_sql.proofs.stock.system_of.Goals as goal

pub returns : goal.returns
returns c = ok_is c.format.result _ _ (rw (c.in_ok-word.ensures, c.in_ok-column.ensures) refl) c.format.ensures.ok
