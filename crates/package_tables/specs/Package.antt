-- A package's tables, all of them, as lists of values in the order of their keys.
use Rattle.std.specs.Prelude.{List}
use Rattle.sqlite.specs.Effect.{Database, IsDatabase}
use Rattle.store_sql.specs.Known.{IsQuiet}
use Rattle.package_tables.specs.Shape.{rows_of, IsFormed}
use Rattle.package_tables.specs.Shapes.{spatial_ref_sys_shape, contents_shape, tile_matrix_set_shape}
use Rattle.package_tables.specs.Shapes.{tile_matrix_shape, relation_shape, tile_shape, medium_shape, attribute_shape}
use Rattle.package_tables.specs.Shapes.{tiles_media_shape, rows_media_shape, rows_tiles_shape, head_shape}
use Rattle.package_tables.specs.Shapes.{identity_shape, receipt_shape, moved_shape}
use Rattle.package_tables.specs.declared.rows.AttributeRow.{AttributeRow}
use Rattle.package_tables.specs.declared.rows.ContentsRow.{ContentsRow}
use Rattle.package_tables.specs.declared.rows.HeadRow.{HeadRow}
use Rattle.package_tables.specs.declared.rows.IdentityRow.{IdentityRow}
use Rattle.package_tables.specs.declared.rows.MappingRow.{MappingRow}
use Rattle.package_tables.specs.declared.rows.MediaRow.{MediaRow}
use Rattle.package_tables.specs.declared.rows.MovedRow.{MovedRow}
use Rattle.package_tables.specs.declared.rows.ReceiptRow.{ReceiptRow}
use Rattle.package_tables.specs.declared.rows.RelationRow.{RelationRow}
use Rattle.package_tables.specs.declared.rows.SpatialRefSysRow.{SpatialRefSysRow}
use Rattle.package_tables.specs.declared.rows.TileMatrixRow.{TileMatrixRow}
use Rattle.package_tables.specs.declared.rows.TileMatrixSetRow.{TileMatrixSetRow}
use Rattle.package_tables.specs.declared.rows.TileRow.{TileRow}

pub record Tables : Type 0 where
  pub spatial_ref_sys : List SpatialRefSysRow
  pub contents : List ContentsRow
  pub tile_matrix_set : List TileMatrixSetRow
  pub tile_matrix : List TileMatrixRow
  pub relations : List RelationRow
  pub tiles : List TileRow
  pub media : List MediaRow
  pub rows : List AttributeRow
  pub tiles_media : List MappingRow
  pub rows_media : List MappingRow
  pub rows_tiles : List MappingRow
  pub heads : List HeadRow
  pub identities : List IdentityRow
  pub receipts : List ReceiptRow
  pub moved : List MovedRow

-- what a database says in these tables
abbrev pub tables_of : Database → Tables
tables_of db = record {
  spatial_ref_sys = rows_of spatial_ref_sys_shape db;
  contents = rows_of contents_shape db;
  tile_matrix_set = rows_of tile_matrix_set_shape db;
  tile_matrix = rows_of tile_matrix_shape db;
  relations = rows_of relation_shape db;
  tiles = rows_of tile_shape db;
  media = rows_of medium_shape db;
  rows = rows_of attribute_shape db;
  tiles_media = rows_of tiles_media_shape db;
  rows_media = rows_of rows_media_shape db;
  rows_tiles = rows_of rows_tiles_shape db;
  heads = rows_of head_shape db;
  identities = rows_of identity_shape db;
  receipts = rows_of receipt_shape db;
  moved = rows_of moved_shape db;
}

-- every table is there and holds rows of its kinds; the trees list the schema and obey it
pub record AreFormed (db : Database) : Type 0 where
  pub sound : IsDatabase db
  pub quiet : IsQuiet db.schema
  pub spatial_ref_sys : IsFormed spatial_ref_sys_shape db
  pub contents : IsFormed contents_shape db
  pub tile_matrix_set : IsFormed tile_matrix_set_shape db
  pub tile_matrix : IsFormed tile_matrix_shape db
  pub relations : IsFormed relation_shape db
  pub tiles : IsFormed tile_shape db
  pub media : IsFormed medium_shape db
  pub rows : IsFormed attribute_shape db
  pub tiles_media : IsFormed tiles_media_shape db
  pub rows_media : IsFormed rows_media_shape db
  pub rows_tiles : IsFormed rows_tiles_shape db
  pub heads : IsFormed head_shape db
  pub identities : IsFormed identity_shape db
  pub receipts : IsFormed receipt_shape db
  pub moved : IsFormed moved_shape db
