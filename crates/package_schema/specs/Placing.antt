-- The parts of the form of a schema: the tables that GeoPackage names, the user tables and their mapping tables, and
-- those of this profile.
use Rattle.sqlite.specs.Schema.{Schema}
use Rattle.store_sql.specs.Known.{IsQuiet}
use Rattle.package_v1.specs.FirstVersion.{AreFree}
use Rattle.package_tables.specs.Form.{IsPlaced}
use Rattle.package_tables.specs.Tables.{gpkg_spatial_ref_sys, gpkg_contents, gpkg_tile_matrix_set, gpkg_tile_matrix}
use Rattle.package_tables.specs.Tables.{gpkgext_relations, sheet_tiles, sheet_media, sheet_rows, tiles_media}
use Rattle.package_tables.specs.Tables.{rows_media, rows_tiles, sheet_package, sheet_identity, sheet_receipts}
use Rattle.package_tables.specs.Tables.{sheet_items}

abbrev pub AreNamedPlaced : Schema → Type 0
AreNamedPlaced s = IsPlaced s gpkg_spatial_ref_sys × IsPlaced s gpkg_contents × IsPlaced s gpkg_tile_matrix_set
    × IsPlaced s gpkg_tile_matrix × IsPlaced s gpkgext_relations

abbrev pub AreUsersPlaced : Schema → Type 0
AreUsersPlaced s = IsPlaced s sheet_tiles × IsPlaced s sheet_media × IsPlaced s sheet_rows × IsPlaced s tiles_media
    × IsPlaced s rows_media × IsPlaced s rows_tiles

abbrev pub AreOwnPlaced : Schema → Type 0
AreOwnPlaced s = IsPlaced s sheet_package × IsPlaced s sheet_identity × IsPlaced s sheet_receipts
    × IsPlaced s sheet_items

-- the fifteen tables are there, and no foreign key acts
abbrev pub AreAllPlaced : Schema → Type 0
AreAllPlaced s = IsQuiet s × AreNamedPlaced s × AreUsersPlaced s × AreOwnPlaced s

-- ---- the first version

abbrev pub AreFirstUsersPlaced : Schema → Type 0
AreFirstUsersPlaced s = IsPlaced s sheet_tiles × IsPlaced s sheet_media × IsPlaced s sheet_rows
    × IsPlaced s tiles_media × IsPlaced s rows_media

-- the fourteen tables are there, no foreign key acts, and nothing has a name that the second version needs
abbrev pub AreFirstPlaced : Schema → Type 0
AreFirstPlaced s = (IsQuiet s × AreNamedPlaced s × AreFirstUsersPlaced s × AreOwnPlaced s) × AreFree s
