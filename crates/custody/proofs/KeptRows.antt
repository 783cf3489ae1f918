-- Rows of items, identities and links that stand as they were, where other tables changed.
use Rattle.std.proofs.Common.{◌≡◌, List, sym, subst}
use Rattle.sqlite.specs.Effect.{Database}
use Rattle.package_tables.specs.Package.{Tables, tables_of}
use Rattle.package_tables.specs.declared.rows.ContentsRow.{ContentsRow}
use Rattle.package_tables.specs.declared.rows.MovedRow.{MovedRow}
use Rattle.package_tables.specs.declared.rows.ReceiptRow.{ReceiptRow}
use Rattle.identity_register.specs.LocalNumbers.{KeepRows, KeepsNumbers}

-- with other receipts there are no more of these rows
pub entries_aside : (receipts : List ReceiptRow) (moved : List MovedRow) (t : Tables)
    → KeepRows (record t { receipts = receipts; moved = moved }) t
entries_aside receipts moved t = record {
  tiles = λ r c. c;
  media = λ r c. c;
  rows = λ r c. c;
  identities = λ r c. c;
  tiles_media = λ r c. c;
  rows_media = λ r c. c;
  rows_tiles = λ r c. c;
}

-- nor with other contents, and no fewer
contents_aside : (contents : List ContentsRow) (t : Tables) → KeepRows (record t { contents = contents }) t
contents_aside contents t = record {
  tiles = λ r c. c;
  media = λ r c. c;
  rows = λ r c. c;
  identities = λ r c. c;
  tiles_media = λ r c. c;
  rows_media = λ r c. c;
  rows_tiles = λ r c. c;
}

contents_beside : (contents : List ContentsRow) (t : Tables) → KeepRows t (record t { contents = contents })
contents_beside contents t = record {
  tiles = λ r c. c;
  media = λ r c. c;
  rows = λ r c. c;
  identities = λ r c. c;
  tiles_media = λ r c. c;
  rows_media = λ r c. c;
  rows_tiles = λ r c. c;
}

-- so what has another moment of its last change keeps its numbers
pub dated_rows : (old new : Database)
    → tables_of new ≡ record (tables_of old) { contents = (tables_of new).contents }
    → KeepsNumbers old new × KeepsNumbers new old
dated_rows old new is = (
  subst (KeepRows (tables_of old)) (sym is) (contents_beside (tables_of new).contents (tables_of old)),
  subst (λ (t : Tables). KeepRows t (tables_of old)) (sym is)
      (contents_aside (tables_of new).contents (tables_of old)),
)
