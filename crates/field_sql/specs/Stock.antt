-- The tables of another program's file under the names that are read, and none in place of those that it has not.
use Rattle.std.specs.Prelude.{ℕ, List, ◌++◌, codes, Option, Some, None}
use Rattle.field_sql.specs.Holds.{body, start}
use Rattle.field_sql.specs.Naming.{identifier, literal}
use Rattle.field_sql.specs.declared.stock.Points.{Points}

-- what no other program's file has: package, identities, media, links
abbrev pub no_register : List ℕ
no_register =
    codes "CREATE TEMP VIEW sheet_export AS SELECT '' AS package, 0 AS ticket WHERE 0;\n"
    ++ (codes "CREATE TEMP VIEW sheet_tile_identity AS\n"
    ++ (codes "SELECT 0 AS id, 0 AS zoom_level, 0 AS tile_column, 0 AS tile_row WHERE 0;\n"
    ++ (codes "CREATE TEMP VIEW sheet_media AS\n"
    ++ (codes "SELECT 0 AS id, x'' AS data, '' AS content_type, '' AS uuid WHERE 0;\n"
    ++ (codes "CREATE TEMP VIEW tiles_media AS SELECT 0 AS base_id, 0 AS related_id WHERE 0;\n"
    ++ (codes "CREATE TEMP VIEW rows_media AS SELECT 0 AS base_id, 0 AS related_id WHERE 0;\n"
    ++ codes "CREATE TEMP VIEW rows_tiles AS SELECT 0 AS base_id, 0 AS related_id WHERE 0;\n"))))))

-- ---- tiles

abbrev pub no_tiles : List ℕ
no_tiles =
    codes "CREATE TEMP VIEW sheet_matrix_set AS\n"
    ++ (codes "SELECT 0 AS srs_id, 0.0 AS min_x, 0.0 AS min_y, 0.0 AS max_x, 0.0 AS max_y WHERE 0;\n"
    ++ (codes "CREATE TEMP VIEW sheet_matrix AS\n"
    ++ (codes "SELECT 0 AS zoom_level, 0 AS matrix_width, 0 AS matrix_height, 0 AS tile_width, 0 AS tile_height,\n"
    ++ (codes "  0.0 AS pixel_x_size, 0.0 AS pixel_y_size WHERE 0;\n"
    ++ (codes "CREATE TEMP VIEW sheet_tiles AS\n"
    ++ codes "SELECT 0 AS id, 0 AS zoom_level, 0 AS tile_column, 0 AS tile_row, x'' AS tile_data WHERE 0;\n")))))

-- The pyramid of this table. Names of tables are compared as SQLite compares them.
abbrev pub tiles_of : List ℕ → List ℕ
tiles_of table =
    codes "CREATE TEMP VIEW sheet_matrix_set AS\nSELECT * FROM main.gpkg_tile_matrix_set WHERE table_name = "
    ++ (literal table
    ++ (codes
    " COLLATE NOCASE;\nCREATE TEMP VIEW sheet_matrix AS\nSELECT * FROM main.gpkg_tile_matrix WHERE table_name = "
    ++ (literal table
    ++ (codes " COLLATE NOCASE;\nCREATE TEMP VIEW sheet_tiles AS\n"
    ++ (codes "SELECT t.id, t.zoom_level, t.tile_column, t.tile_row, t.tile_data FROM main."
    ++ (identifier table ++ codes " t;\n"))))))

abbrev pub tiles_or_none : Option (List ℕ) → List ℕ
tiles_or_none None = no_tiles
tiles_or_none (Some table) = tiles_of table

-- ---- points

abbrev pub no_points : List ℕ
no_points =
    codes "CREATE TEMP VIEW sheet_points_system AS SELECT 0 AS srs_id WHERE 0;\n"
    ++ (codes "CREATE TEMP VIEW sheet_rows AS\n"
    ++ codes "SELECT 0 AS id, x'' AS geom, 0 AS code, '' AS label, '' AS uuid WHERE 0;\n")

-- the reference system of a column of geometries
abbrev pub system_of : List ℕ → List ℕ → List ℕ
system_of table geometry =
    codes "CREATE TEMP VIEW sheet_points_system AS\nSELECT srs_id FROM main.gpkg_geometry_columns WHERE table_name = "
    ++ (literal table
    ++ (codes " COLLATE NOCASE\n  AND column_name = " ++ (literal geometry ++ codes " COLLATE NOCASE;\n")))

-- Each column is named by its table: a name alone that is no column would be read as a text.
abbrev pub rows_of : List ℕ → List ℕ → List ℕ → List ℕ → List ℕ
rows_of table geometry code label =
    codes "CREATE TEMP VIEW sheet_rows AS\nSELECT t.rowid AS id, t."
    ++ (identifier geometry
    ++ (codes " AS geom, t."
    ++ (identifier code
    ++ (codes " AS code, t."
    ++ (identifier label
    ++ (codes " AS label, NULL AS uuid FROM main." ++ (identifier table ++ codes " t;\n")))))))

abbrev pub points_of : Points → List ℕ
points_of p =
    system_of p.table.now p.geometry.now ++ rows_of p.table.now p.geometry.now p.code.now p.label.now

abbrev pub points_or_none : Option Points → List ℕ
points_or_none None = no_points
points_or_none (Some p) = points_of p

-- ---- all

-- what these tables of another program's file hold
abbrev pub stock_holds : Option (List ℕ) → Option Points → List ℕ
stock_holds tiles points =
    start ++ (no_register ++ (tiles_or_none tiles ++ (points_or_none points ++ body)))
