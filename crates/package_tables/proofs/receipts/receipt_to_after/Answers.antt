use Rattle.std.proofs.Common.{refl, to_z-of_z}
use Rattle.package_tables.proofs.Next.{looks_next}
use Rattle.package_tables.proofs.ReceiptStatements.{receipts_known, receipt_to_after}
use Rattle.package_tables.proofs.receipts.receipt_to_after.Goals as goal

pub returns : goal.returns
returns g c =
    let e = c.query_all.ensures in
    looks_next receipts_known (receipt_to_after c.args.target.now c.args.seq) (λ rows. rows.items) _
    (rw (c.params-to_sql.ensures, c.params-to_sql-2.ensures) (simp (to_z-of_z, c.ranges.seq) refl)) g.S.Store
    g.met.S.Store.shut_if_dirty g.met.S.Store.settled
    c.args.conn.now c.query_all.new.self c.requires c.query_all.result e.ok e.err e.mode e.survives c.first_of.result
    c.first_of.ensures.first
