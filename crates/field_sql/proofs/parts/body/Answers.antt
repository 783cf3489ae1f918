use Rattle.field_sql.proofs.Texts.{joined, ok_is}
use Rattle.field_sql.proofs.parts.body.Goals as goal

pub returns : goal.returns
returns c = ok_is c.format.result _ _ (joined c.points-points.ensures
    (joined c.links-links.ensures (joined c.levels-levels.ensures c.records-records.ensures))) c.format.ensures.ok
