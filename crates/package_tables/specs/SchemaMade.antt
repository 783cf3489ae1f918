-- The schema of a new package, and what its database holds. OGC GeoPackage 1.3 and OGC 18-000 name the standard
-- tables; the order, the trees and the look-up indexes are profile.
use Rattle.std.specs.Prelude.{◌≡◌, ℕ, ◌+◌, List, [], ◌∷◌, ◌++◌, take, codes, false}
use Rattle.std.specs.List.{AllByRecursion, flat_map}
use Rattle.sqlite.specs.Table.{Table}
use Rattle.sqlite.specs.Schema.{Schema}
use Rattle.sqlite.specs.Effect.{Database, IsDatabase}
use Rattle.sqlite.specs.Change.{automatics}
use Rattle.sqlite_schema.specs.declared.schema.Index.{Index}
use Rattle.sqlite_value.specs.Keys.{plain}
use Rattle.store_sql.specs.Known.{counters}
use Rattle.store_sql.specs.Writing.{AreKeyed}
use Rattle.store_sql.specs.Blank.{IsBlank, no_schema}
use Rattle.package_tables.specs.Tables.{gpkg_spatial_ref_sys, gpkg_contents, gpkg_tile_matrix_set, gpkg_tile_matrix}
use Rattle.package_tables.specs.Tables.{gpkgext_relations, sheet_tiles, sheet_media, sheet_rows, tiles_media}
use Rattle.package_tables.specs.Tables.{rows_media, rows_tiles, sheet_package, sheet_identity, sheet_receipts}
use Rattle.package_tables.specs.Tables.{sheet_items}
use Rattle.package_tables.specs.Form.{HasForm, rows_named}
use Rattle.package_tables.specs.Package.{Tables, tables_of, AreFormed}

-- SQLite makes its table of the highest rowids with the first table that counts.
abbrev pub tables_made : List Table
tables_made =
    gpkg_spatial_ref_sys 0 ∷ gpkg_contents 1 ∷ gpkg_tile_matrix_set 4 ∷ gpkg_tile_matrix 6
    ∷ gpkgext_relations 8 ∷ sheet_tiles 10 ∷ counters 12 ∷ sheet_media 13 ∷ sheet_rows 14
    ∷ tiles_media 15 ∷ rows_media 17 ∷ rows_tiles 19 ∷ sheet_package 21 ∷ sheet_identity 22
    ∷ sheet_receipts 25 ∷ sheet_items 27 ∷ []

-- an index that finds rows and refuses none
abbrev pub look_up : List ℕ → List ℕ → ℕ → ℕ → Index
look_up name columns table tree = record {
  name = name;
  tree = tree;
  table = table;
  columns = columns;
  order = plain;
  is_unique = false;
}

abbrev pub items_by_base : ℕ → ℕ → Index
items_by_base = look_up (codes "items_by_base") (4 ∷ [])

abbrev pub receipts_by_target : ℕ → ℕ → Index
receipts_by_target = look_up (codes "receipts_by_target") (6 ∷ [])

abbrev pub by_tiles_media : ℕ → ℕ → Index
by_tiles_media = look_up (codes "by_tiles_media") (2 ∷ [])

abbrev pub by_rows_media : ℕ → ℕ → Index
by_rows_media = look_up (codes "by_rows_media") (2 ∷ [])

abbrev pub by_rows_tiles : ℕ → ℕ → Index
by_rows_tiles = look_up (codes "by_rows_tiles") (2 ∷ [])

abbrev pub by_xy : ℕ → ℕ → Index
by_xy = look_up (codes "by_xy") (2 ∷ 3 ∷ [])

abbrev pub look_ups_made : List Index
look_ups_made = items_by_base 27 29 ∷ receipts_by_target 25 30 ∷ by_tiles_media 15 31 ∷ by_rows_media 17 32
    ∷ by_rows_tiles 19 33 ∷ by_xy 14 34 ∷ []

-- the first tables, with the index of each of their UNIQUEs, and the first look-up indexes
abbrev pub first_made : ℕ → ℕ → Schema
first_made tables look_ups = record {
  tables = take tables tables_made;
  indexes = flat_map (λ t. automatics t 0 (t.tree + 1) t.uniques) (take tables tables_made)
      ++ take look_ups look_ups_made;
  views = [];
}

abbrev pub package_schema : Schema
package_schema = first_made 16 6

abbrev pub table_names : List (List ℕ)
table_names =
    codes "gpkg_spatial_ref_sys" ∷ codes "gpkg_contents" ∷ codes "gpkg_tile_matrix_set"
    ∷ codes "gpkg_tile_matrix" ∷ codes "gpkgext_relations" ∷ codes "sheet_tiles" ∷ codes "sheet_media"
    ∷ codes "sheet_rows"
    ∷ codes "tiles_media" ∷ codes "rows_media" ∷ codes "rows_tiles" ∷ codes "sheet_package"
    ∷ codes "sheet_identity" ∷ codes "sheet_receipts" ∷ codes "sheet_items" ∷ []

-- all fifteen tables are there, and have no rows
pub record IsEmptyForm (db : Database) : Type 0 where
  pub form : HasForm db.schema
  pub empty : AllByRecursion (λ name. rows_named db name ≡ []) table_names

-- what the tables of a new package say
abbrev pub empty_tables : Tables
empty_tables = record {
  spatial_ref_sys = [];
  contents = [];
  tile_matrix_set = [];
  tile_matrix = [];
  relations = [];
  tiles = [];
  media = [];
  rows = [];
  tiles_media = [];
  rows_media = [];
  rows_tiles = [];
  heads = [];
  identities = [];
  receipts = [];
  moved = [];
}

-- a database with the tables and indexes of a package and no others, and no rows; its trees list its schema
pub record IsNewPackage (db : Database) : Type 0 where
  pub blank : IsBlank package_schema db
  pub form : IsEmptyForm db
  pub formed : AreFormed db
  pub sound : IsDatabase db
  pub keyed : AreKeyed db
  pub says : tables_of db ≡ empty_tables

-- a database without objects became a new package
abbrev pub BecomesPackage : Database → Database → Type 0
BecomesPackage old new = IsBlank no_schema old → IsNewPackage new
