-- The form of a package's schema: which tables it has to have. OGC GeoPackage 1.3 and OGC 18-000 name the tables and
-- columns; types and keys are profile.
use Rattle.std.specs.Prelude.{ℕ, List, slice_get}
use Rattle.sqlite.specs.Schema.{Schema}
use Rattle.sqlite.specs.Order.{Row}
use Rattle.sqlite.specs.Effect.{Database}
use Rattle.sqlite_schema.specs.Names.{table_named}
use Rattle.std.specs.Option.{option_and_then, option_map_or}
use Rattle.store_sql.specs.Known.{IsQuiet}
pub use Rattle.store_sql.specs.Spelling.{IsPlaced}
use Rattle.package_tables.specs.Tables.{gpkg_spatial_ref_sys, gpkg_contents, gpkg_tile_matrix_set, gpkg_tile_matrix}
use Rattle.package_tables.specs.Tables.{gpkgext_relations, sheet_tiles, sheet_media, sheet_rows, tiles_media}
use Rattle.package_tables.specs.Tables.{rows_media, rows_tiles, sheet_package, sheet_identity, sheet_receipts}
use Rattle.package_tables.specs.Tables.{sheet_items}

-- the number of the tree that the schema has for a name; 0 where it has no such table
abbrev pub tree_named : Schema → List ℕ → ℕ
tree_named schema name = option_map_or (λ t. t.tree) (option_and_then (λ at. slice_get schema.tables at)
    (table_named schema name)) 0

-- the rows of the table of that name
abbrev pub rows_named : Database → List ℕ → List Row
rows_named db name = db.trees (tree_named db.schema name)

-- all fifteen tables are there, by their names, columns and keys. Another spelling of a key, other tables, another
-- order, other trees and further indexes change nothing
pub record HasForm (schema : Schema) : Type 0 where
  pub quiet : IsQuiet schema
  pub spatial_ref_sys : IsPlaced schema gpkg_spatial_ref_sys
  pub contents : IsPlaced schema gpkg_contents
  pub tile_matrix_set : IsPlaced schema gpkg_tile_matrix_set
  pub tile_matrix : IsPlaced schema gpkg_tile_matrix
  pub relations : IsPlaced schema gpkgext_relations
  pub tiles : IsPlaced schema sheet_tiles
  pub media : IsPlaced schema sheet_media
  pub rows : IsPlaced schema sheet_rows
  pub tiles_media : IsPlaced schema tiles_media
  pub rows_media : IsPlaced schema rows_media
  pub rows_tiles : IsPlaced schema rows_tiles
  pub head : IsPlaced schema sheet_package
  pub identities : IsPlaced schema sheet_identity
  pub receipts : IsPlaced schema sheet_receipts
  pub receipt_items : IsPlaced schema sheet_items
