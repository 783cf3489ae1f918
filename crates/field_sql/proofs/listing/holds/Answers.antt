use Rattle.field_sql.proofs.Texts.{joined, ok_is}
use Rattle.field_sql.proofs.listing.holds.Goals as goal

pub returns : goal.returns
returns c = ok_is c.format.result _ _ (joined c.start-start.ensures
    (joined c.own_tables-tables.ensures c.in_ok-body.ensures)) c.format.ensures.ok
