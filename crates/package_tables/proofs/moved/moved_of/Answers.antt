use Rattle.std.proofs.Common.{refl, to_z-of_z}
use Rattle.package_tables.proofs.Looking.{looks_ranked}
use Rattle.package_tables.proofs.MovedStatements.{moved_known, moved_of, moved_of_ranked}
use Rattle.package_tables.proofs.moved.moved_of.Goals as goal

pub returns : goal.returns
returns g c =
    let e = c.query_all.ensures in
    looks_ranked moved_known (moved_of c.args.seq) (λ rows. rows.items) _
    (rw (c.params-to_sql.ensures) (simp (to_z-of_z, c.ranges.seq) refl)) g.S.Store g.met.S.Store.shut_if_dirty
    g.met.S.Store.settled
    c.args.conn.now c.query_all.new.self c.requires c.query_all.result e.ok e.err e.mode e.survives
    (λ found. found.items) (λ x. x.position) (moved_of_ranked c.args.seq) c.all_of.result
    c.all_of.ensures.values
