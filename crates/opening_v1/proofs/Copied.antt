-- The rows that were read in order are those of the tables as they stand.
use Rattle.std.proofs.Common.{◌≡◌, ◌∙◌, List, map, sym}
use Rattle.std.specs.Prelude.{IsPermutation}
use Rattle.sqlite.specs.Effect.{Database}
use Rattle.sheet_types.specs.Ordered.{IsArranged}
use Rattle.sheet_types.specs.declared.frame.Frame.{Frame}
use Rattle.package_tables.specs.Creation.{new_tables}
use Rattle.package_tables.specs.Package.{Tables, tables_of}
use Rattle.package_tables.specs.Shape.{Shape, rows_of, stored_rows}
use Rattle.package_tables.specs.Shapes.{tile_shape, medium_shape, attribute_shape, tiles_media_shape}
use Rattle.package_tables.specs.Shapes.{rows_media_shape, identity_shape, receipt_shape, moved_shape}
use Rattle.package_tables.specs.declared.rows.HeadRow.{HeadRow}
use Rattle.package_receipts.proofs.Saying.{arranged_same, arranged_already}
use Rattle.package_copy.specs.Copies.{AreInOrder, with_rows}
use Rattle.package_copy.specs.declared.package_rows.PackageRows.{PackageRows}
use Rattle.opening_v1.specs.Copies.{AreRowsOf}

-- a new package with the rows of other tables
abbrev pub of_store : Frame → HeadRow → Tables → Tables
of_store f head t = record (new_tables f head) {
  tiles = t.tiles;
  media = t.media;
  rows = t.rows;
  tiles_media = t.tiles_media;
  rows_media = t.rows_media;
  identities = t.identities;
  receipts = t.receipts;
  moved = t.moved;
}

same_rows : {R : Type 0} (shape : Shape R) (db : Database) (xs : List R) → IsPermutation (rows_of shape db) xs
    → IsArranged shape.key xs → xs ≡ rows_of shape db
same_rows shape db xs all order = sym (arranged_same shape.key (map shape.typed (stored_rows shape db)) xs all order
    ∙ arranged_already shape.key xs order)

pub whole_copy : (f : Frame) (head : HeadRow) (db : Database) (x : PackageRows) → AreRowsOf (tables_of db) x
    → AreInOrder x → with_rows x (new_tables f head) ≡ of_store f head (tables_of db)
whole_copy f head db x all order =
    let tiles = same_rows tile_shape db x.tiles.items all.tiles order.tiles in
    let media = same_rows medium_shape db x.media.items all.media order.media in
    let rows = same_rows attribute_shape db x.rows.items all.rows order.rows in
    let tiles_media = same_rows tiles_media_shape db x.tiles_media.items all.tiles_media order.tiles_media in
    let rows_media = same_rows rows_media_shape db x.rows_media.items all.rows_media order.rows_media in
    let identities = same_rows identity_shape db x.identities.items all.identities order.identities in
    let receipts = same_rows receipt_shape db x.receipts.items all.receipts order.receipts in
    let moved = same_rows moved_shape db x.moved.items all.moved order.moved in
    λ n. record (new_tables f head) {
      tiles = tiles n;
      media = media n;
      rows = rows n;
      tiles_media = tiles_media n;
      rows_media = rows_media n;
      identities = identities n;
      receipts = receipts n;
      moved = moved n;
    }
