use Rattle.std.proofs.Common.{pos, refl, to_z-of_z}
use Rattle.sqlite.specs.Held.{state}
use Rattle.sqlite.specs.declared.types.Value.TheVariants.{Int}
use Rattle.package_tables.specs.declared.rows.ReceiptRow.{ReceiptRow}
use Rattle.package_tables.proofs.Making.{enters}
use Rattle.package_tables.proofs.ReceiptStatements.{insert_text, insert_row}
use Rattle.package_tables.proofs.Written.{receipts_listed}
use Rattle.package_tables.proofs.receipts.insert_receipt.Goals as goal

pub returns-clause-wrote : goal.returns-clause-wrote
returns-clause-wrote g c clean begun =
    let a = c.args in
    let old = state g.S.Store a.tx.now.conn.now in
    let new = state g.S.Store c.execute.new.self.conn.now in
    let row : ReceiptRow = record {
      seq = a.seq;
      request = a.request.now;
      at = a.at.now;
      line = a.line.now;
      source = a.source.now;
      target = a.target.now;
      n_tiles = a.n_tiles;
      n_media = a.n_media;
      n_rows = a.n_rows;
      n_links = a.n_links;
      n_bytes = a.n_bytes;
    } in
    enters receipts_listed row insert_text (insert_row row) (λ there. (Int (pos 0), refl, refl)) old new
    c.execute.result _ c.drop_count.ensures _
    (rw (
      c.params-to_sql.ensures,
      c.params-to_sql-2.ensures,
      c.params-to_sql-3.ensures,
      c.params-to_sql-4.ensures,
      c.params-to_sql-5.ensures,
      c.params-to_sql-6.ensures,
      c.params-to_sql-7.ensures,
      c.params-to_sql-8.ensures,
      c.params-to_sql-9.ensures,
      c.params-to_sql-10.ensures,
      c.params-to_sql-11.ensures,
    )
    (simp (
      to_z-of_z,
      c.ranges.seq,
      c.ranges.n_tiles,
      c.ranges.n_media,
      c.ranges.n_rows,
      c.ranges.n_links,
      c.ranges.n_bytes,
    ) refl))
    (c.execute.ensures.runs clean begun)
