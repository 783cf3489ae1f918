use Rattle.std.proofs.Common.{refl}
use Rattle.sqlite.specs.Held.{state}
use Rattle.package_tables.proofs.Looking.{tells_one}
use Rattle.package_tables.proofs.IdentityStatements.{known, identity_by_uuid}
use Rattle.package_tables.proofs.identities.identity_by_uuid_inside.Goals as goal

pub returns-clause-told : goal.returns-clause-told
returns-clause-told g c =
    let e = c.query_all.ensures in
    tells_one known (identity_by_uuid c.args.uuid.now) (λ rows. rows.items) _ (rw (c.params-to_sql.ensures) refl)
    (state g.S.Store c.args.tx.now.conn.now) (state g.S.Store c.query_all.new.self.conn.now) c.query_all.result e.ok
    e.err c.first_of.result c.first_of.ensures.first
