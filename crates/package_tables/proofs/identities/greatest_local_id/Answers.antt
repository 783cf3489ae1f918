use Rattle.std.proofs.Common.{refl, to_z-of_z}
use Rattle.sqlite.specs.Held.{state}
use Rattle.package_tables.proofs.Newest.{tells_greatest}
use Rattle.package_tables.proofs.IdentityStatements.{known, newest}
use Rattle.package_tables.proofs.identities.greatest_local_id.Goals as goal

pub returns-clause-told : goal.returns-clause-told
returns-clause-told g c =
    let e = c.query_all.ensures in
    tells_greatest known (newest c.args.kind) (λ rows. rows.items) _
    (rw (c.params-to_sql.ensures) (simp (to_z-of_z, c.ranges.kind) refl))
    (state g.S.Store c.args.tx.now.conn.now) (state g.S.Store c.query_all.new.self.conn.now) c.query_all.result e.ok
    e.err c.number_of.result c.number_of.ensures.number
