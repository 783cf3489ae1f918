use Rattle.std.proofs.Common.{to_z-of_z}
use Rattle.package_tables.proofs.Looking.{looks_one}
use Rattle.package_tables.proofs.MovedStatements.{moved_known, moved_at}
use Rattle.package_tables.proofs.moved.moved_at.Goals as goal

pub returns : goal.returns
returns g c =
    let e = c.query_all.ensures in
    looks_one moved_known (moved_at c.args.seq c.args.position) (λ rows. rows.items) _
    (rw (c.params-to_sql.ensures, c.params-to_sql-2.ensures) (simp (to_z-of_z, c.ranges.seq, c.ranges.position)))
    g.S.Store g.met.S.Store.shut_if_dirty g.met.S.Store.settled
    c.args.conn.now c.query_all.new.self c.requires c.query_all.result e.ok e.err e.mode e.survives c.first_of.result
    c.first_of.ensures.first
