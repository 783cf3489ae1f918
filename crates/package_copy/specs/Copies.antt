-- Rows that come into a new package, and what it then says. Profile.
use Rattle.std.specs.Prelude.{◌≡◌, []}
use Rattle.sqlite.specs.Effect.{Database}
use Rattle.sheet_types.specs.Ordered.{IsArranged}
use Rattle.sheet_types.specs.declared.frame.Frame.{Frame}
use Rattle.store_sql.specs.Writing.{AreKeyed}
use Rattle.package_tables.specs.Creation.{new_tables, HoldsTables}
use Rattle.package_tables.specs.Package.{Tables}
use Rattle.package_tables.specs.Shapes.{tile_shape, medium_shape, attribute_shape, tiles_media_shape}
use Rattle.package_tables.specs.Shapes.{rows_media_shape, identity_shape, receipt_shape, moved_shape}
use Rattle.package_tables.specs.declared.rows.HeadRow.{HeadRow}
use Rattle.package_copy.specs.declared.package_rows.PackageRows.{PackageRows}

-- the rows of each table are in the order of its key, no two under one
pub record AreInOrder (x : PackageRows) : Type 0 where
  pub tiles : IsArranged tile_shape.key x.tiles.items
  pub media : IsArranged medium_shape.key x.media.items
  pub rows : IsArranged attribute_shape.key x.rows.items
  pub tiles_media : IsArranged tiles_media_shape.key x.tiles_media.items
  pub rows_media : IsArranged rows_media_shape.key x.rows_media.items
  pub identities : IsArranged identity_shape.key x.identities.items
  pub receipts : IsArranged receipt_shape.key x.receipts.items
  pub moved : IsArranged moved_shape.key x.moved.items

-- the tables have none of these rows
pub record AreEmpty (t : Tables) : Type 0 where
  pub tiles : t.tiles ≡ []
  pub media : t.media ≡ []
  pub rows : t.rows ≡ []
  pub tiles_media : t.tiles_media ≡ []
  pub rows_media : t.rows_media ≡ []
  pub identities : t.identities ≡ []
  pub receipts : t.receipts ≡ []
  pub moved : t.moved ≡ []

-- the tables with these rows
abbrev pub with_rows : PackageRows → Tables → Tables
with_rows x t = record t {
  tiles = x.tiles.items;
  media = x.media.items;
  rows = x.rows.items;
  tiles_media = x.tiles_media.items;
  rows_media = x.rows_media.items;
  identities = x.identities.items;
  receipts = x.receipts.items;
  moved = x.moved.items;
}

-- tables that had none get these
abbrev pub Fills : PackageRows → Tables → Tables → Type 0
Fills x before after = AreEmpty before → after ≡ with_rows x before

-- A package of this frame and this head has these rows, and each of its tables is in the order of its rowids.
pub record IsCopy (f : Frame) (head : HeadRow) (x : PackageRows) (db : Database) : Type 0 where
  pub holds : HoldsTables db (with_rows x (new_tables f head))
  pub keyed : AreKeyed db
