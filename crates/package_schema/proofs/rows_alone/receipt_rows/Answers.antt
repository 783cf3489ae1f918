use Rattle.std.proofs.Common.{refl}
use Rattle.package_tables.specs.Shapes.{receipt_shape}
use Rattle.package_tables.specs.Shown.{receipt_shown}
use Rattle.package_tables.proofs.ReceiptStatements.{receipts_known, all_receipts, all_receipts_ranked}
use Rattle.package_schema.proofs.Asking.{rows_look}
use Rattle.package_schema.proofs.rows_alone.receipt_rows.Goals as goal

pub returns : goal.returns
returns g c =
    let e = c.query_all.ensures in
    rows_look (λ rows. rows.items) _ refl g.S.Store g.met.S.Store.shut_if_dirty g.met.S.Store.settled c.args.conn.now
    c.query_all.new.self c.requires c.query_all.result
    receipt_shape receipts_known.is.laws receipt_shown receipts_known.back receipts_known.returns all_receipts
    (λ x. refl) all_receipts_ranked e.ok e.err e.mode e.survives (λ found. found.items) c.all_of.result
    c.all_of.ensures.values
