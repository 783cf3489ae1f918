use Rattle.std.proofs.Common.{refl}
use Rattle.package_tables.proofs.Looking.{looks_one}
use Rattle.package_tables.proofs.IdentityStatements.{known, identity_by_uuid}
use Rattle.package_tables.proofs.identities.identity_by_uuid.Goals as goal

pub returns : goal.returns
returns g c =
    let e = c.query_all.ensures in
    looks_one known (identity_by_uuid c.args.uuid.now) (λ rows. rows.items) _ (rw (c.params-to_sql.ensures) refl)
    g.S.Store g.met.S.Store.shut_if_dirty g.met.S.Store.settled
    c.args.conn.now c.query_all.new.self c.requires c.query_all.result e.ok e.err e.mode e.survives c.first_of.result
    c.first_of.ensures.first
