-- The tables of an export: those of OGC GeoPackage 1.3 and of OGC 18-000 with their columns, and the user tables.
use Rattle.std.specs.Prelude.{ℕ, List, [], ◌∷◌, ◌++◌, codes}
use Rattle.view_export.specs.Statements.{table}

-- 1.1.2
abbrev pub reference_systems_table : List ℕ
reference_systems_table = table (codes "gpkg_spatial_ref_sys")
    (codes "srs_name TEXT NOT NULL"
    ∷ codes "srs_id INTEGER NOT NULL PRIMARY KEY"
    ∷ codes "organization TEXT NOT NULL"
    ∷ codes "organization_coordsys_id INTEGER NOT NULL"
    ∷ codes "definition TEXT NOT NULL"
    ∷ codes "description TEXT"
    ∷ [])

-- 1.1.3
abbrev pub contents_table : List ℕ
contents_table = table (codes "gpkg_contents")
    (codes "table_name TEXT NOT NULL PRIMARY KEY"
    ∷ codes "data_type TEXT NOT NULL"
    ∷ codes "identifier TEXT UNIQUE"
    ∷ codes "description TEXT DEFAULT ''"
    ∷ codes "last_change DATETIME NOT NULL DEFAULT (strftime('%Y-%m-%dT%H:%M:%fZ','now'))"
    ∷ codes "min_x DOUBLE"
    ∷ codes "min_y DOUBLE"
    ∷ codes "max_x DOUBLE"
    ∷ codes "max_y DOUBLE"
    ∷ codes "srs_id INTEGER"
    ∷ codes "CONSTRAINT fk_gc_r_srs_id FOREIGN KEY (srs_id) REFERENCES gpkg_spatial_ref_sys(srs_id)"
    ∷ [])

-- 2.1.5
abbrev pub geometry_columns_table : List ℕ
geometry_columns_table = table (codes "gpkg_geometry_columns")
    (codes "table_name TEXT NOT NULL"
    ∷ codes "column_name TEXT NOT NULL"
    ∷ codes "geometry_type_name TEXT NOT NULL"
    ∷ codes "srs_id INTEGER NOT NULL"
    ∷ codes "z TINYINT NOT NULL"
    ∷ codes "m TINYINT NOT NULL"
    ∷ codes "CONSTRAINT pk_geom_cols PRIMARY KEY (table_name, column_name)"
    ∷ codes "CONSTRAINT uk_gc_table_name UNIQUE (table_name)"
    ∷ codes "CONSTRAINT fk_gc_tn FOREIGN KEY (table_name) REFERENCES gpkg_contents(table_name)"
    ∷ codes "CONSTRAINT fk_gc_srs FOREIGN KEY (srs_id) REFERENCES gpkg_spatial_ref_sys(srs_id)"
    ∷ [])

-- 2.2.6
abbrev pub matrix_set_table : List ℕ
matrix_set_table = table (codes "gpkg_tile_matrix_set")
    (codes "table_name TEXT NOT NULL PRIMARY KEY"
    ∷ codes "srs_id INTEGER NOT NULL"
    ∷ codes "min_x DOUBLE NOT NULL"
    ∷ codes "min_y DOUBLE NOT NULL"
    ∷ codes "max_x DOUBLE NOT NULL"
    ∷ codes "max_y DOUBLE NOT NULL"
    ∷ codes "CONSTRAINT fk_gtms_table_name FOREIGN KEY (table_name) REFERENCES gpkg_contents(table_name)"
    ∷ codes "CONSTRAINT fk_gtms_srs FOREIGN KEY (srs_id) REFERENCES gpkg_spatial_ref_sys(srs_id)"
    ∷ [])

-- 2.2.7
abbrev pub matrix_table : List ℕ
matrix_table = table (codes "gpkg_tile_matrix")
    (codes "table_name TEXT NOT NULL"
    ∷ codes "zoom_level INTEGER NOT NULL"
    ∷ codes "matrix_width INTEGER NOT NULL"
    ∷ codes "matrix_height INTEGER NOT NULL"
    ∷ codes "tile_width INTEGER NOT NULL"
    ∷ codes "tile_height INTEGER NOT NULL"
    ∷ codes "pixel_x_size DOUBLE NOT NULL"
    ∷ codes "pixel_y_size DOUBLE NOT NULL"
    ∷ codes "CONSTRAINT pk_ttm PRIMARY KEY (table_name, zoom_level)"
    ∷ codes "CONSTRAINT fk_tmm_table_name FOREIGN KEY (table_name) REFERENCES gpkg_contents(table_name)"
    ∷ [])

-- 2.3.2
abbrev pub extensions_table : List ℕ
extensions_table = table (codes "gpkg_extensions")
    (codes "table_name TEXT"
    ∷ codes "column_name TEXT"
    ∷ codes "extension_name TEXT NOT NULL"
    ∷ codes "definition TEXT NOT NULL"
    ∷ codes "scope TEXT NOT NULL"
    ∷ codes "CONSTRAINT ge_tce UNIQUE (table_name, column_name, extension_name)"
    ∷ [])

-- OGC 18-000
abbrev pub relations_table : List ℕ
relations_table = table (codes "gpkgext_relations")
    (codes "id INTEGER PRIMARY KEY AUTOINCREMENT"
    ∷ codes "base_table_name TEXT NOT NULL"
    ∷ codes "base_primary_column TEXT NOT NULL DEFAULT 'id'"
    ∷ codes "related_table_name TEXT NOT NULL"
    ∷ codes "related_primary_column TEXT NOT NULL DEFAULT 'id'"
    ∷ codes "relation_name TEXT NOT NULL"
    ∷ codes "mapping_table_name TEXT NOT NULL UNIQUE"
    ∷ [])

-- a tile pyramid (2.2.8)
abbrev pub tiles_table : List ℕ
tiles_table = table (codes "sheet_tiles")
    (codes "id INTEGER PRIMARY KEY AUTOINCREMENT"
    ∷ codes "zoom_level INTEGER NOT NULL"
    ∷ codes "tile_column INTEGER NOT NULL"
    ∷ codes "tile_row INTEGER NOT NULL"
    ∷ codes "tile_data BLOB NOT NULL"
    ∷ codes "UNIQUE (zoom_level, tile_column, tile_row)"
    ∷ [])

-- features (2.1.6): the outline, the identity and the place of the tile that had this number when it was exported
abbrev pub tile_identity_table : List ℕ
tile_identity_table = table (codes "sheet_tile_identity")
    (codes "id INTEGER PRIMARY KEY AUTOINCREMENT"
    ∷ codes "geom POLYGON"
    ∷ codes "uuid TEXT NOT NULL"
    ∷ codes "zoom_level INTEGER NOT NULL"
    ∷ codes "tile_column INTEGER NOT NULL"
    ∷ codes "tile_row INTEGER NOT NULL"
    ∷ [])

-- media (OGC 18-000); what another program adds has no identity yet
abbrev pub media_table : List ℕ
media_table = table (codes "sheet_media")
    (codes "id INTEGER PRIMARY KEY AUTOINCREMENT"
    ∷ codes "data BLOB NOT NULL"
    ∷ codes "content_type TEXT NOT NULL DEFAULT 'image/jpeg'"
    ∷ codes "uuid TEXT"
    ∷ [])

-- features (2.1.6); what another program adds has no identity yet, and a label that is left empty may be none
abbrev pub rows_table : List ℕ
rows_table = table (codes "sheet_rows")
    (codes "id INTEGER PRIMARY KEY AUTOINCREMENT"
    ∷ codes "geom POINT"
    ∷ codes "code INTEGER NOT NULL DEFAULT 0"
    ∷ codes "label TEXT DEFAULT ''"
    ∷ codes "uuid TEXT"
    ∷ [])

-- a user-defined mapping table (OGC 18-000), with a key of its own, by which other programs change and delete a link
abbrev pub mapping_table : List ℕ → List ℕ
mapping_table name = table name
    (codes "id INTEGER PRIMARY KEY AUTOINCREMENT"
    ∷ codes "base_id INTEGER NOT NULL"
    ∷ codes "related_id INTEGER NOT NULL"
    ∷ [])

-- which package it is, and the number of the last receipt of it. Profile
abbrev pub export_table : List ℕ
export_table = table (codes "sheet_export") (codes "package TEXT NOT NULL" ∷ codes "ticket INTEGER NOT NULL" ∷ [])

-- how tables are drawn and edited, as QGIS reads it
abbrev pub styles_table : List ℕ
styles_table = table (codes "layer_styles")
    (codes "id INTEGER PRIMARY KEY AUTOINCREMENT"
    ∷ codes "f_table_catalog TEXT"
    ∷ codes "f_table_schema TEXT"
    ∷ codes "f_table_name TEXT"
    ∷ codes "f_geometry_column TEXT"
    ∷ codes "styleName TEXT"
    ∷ codes "styleQML TEXT"
    ∷ codes "styleSLD TEXT"
    ∷ codes "useAsDefault BOOLEAN"
    ∷ codes "description TEXT"
    ∷ codes "owner TEXT"
    ∷ codes "ui TEXT"
    ∷ codes "update_time DATETIME DEFAULT (strftime('%Y-%m-%dT%H:%M:%fZ','now'))"
    ∷ [])

-- the tables that the standards name
abbrev pub standard_tables : List ℕ
standard_tables =
    reference_systems_table ++ (contents_table ++ (geometry_columns_table ++ (matrix_set_table
    ++ (matrix_table ++ (extensions_table ++ relations_table)))))

-- those that hold items and links
abbrev pub sheet_tables : List ℕ
sheet_tables =
    tiles_table ++ (tile_identity_table ++ (media_table ++ (rows_table ++ (mapping_table (codes "tiles_media")
    ++ (mapping_table (codes "rows_media") ++ mapping_table (codes "rows_tiles"))))))

abbrev pub schema : List ℕ
schema = standard_tables ++ (sheet_tables ++ (export_table ++ styles_table))
