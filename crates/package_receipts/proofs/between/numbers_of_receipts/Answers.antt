use Rattle.std.proofs.Common.{refl}
use Rattle.package_tables.proofs.Numbering.{looks_numbers}
use Rattle.package_tables.proofs.ReceiptStatements.{receipts_known}
use Rattle.package_receipts.proofs.BetweenStatements.{numbers}
use Rattle.package_receipts.proofs.between.numbers_of_receipts.Goals as goal

pub returns : goal.returns
returns g c =
    let e = c.query_all.ensures in
    looks_numbers receipts_known.is numbers (λ rows. rows.items) _ refl g.S.Store g.met.S.Store.shut_if_dirty
    g.met.S.Store.settled c.args.conn.now c.query_all.new.self c.requires c.query_all.result e.ok e.err e.mode
    e.survives (λ found. found.items) c.all_of.result c.all_of.ensures.values
