use Rattle.field_sql.proofs.Texts.{joined, ok_is}
use Rattle.field_sql.proofs.stock.points_of.Goals as goal

pub returns : goal.returns
returns c = ok_is c.format.result _ _ (joined c.in_ok-system.ensures c.in_ok-rows.ensures) c.format.ensures.ok
