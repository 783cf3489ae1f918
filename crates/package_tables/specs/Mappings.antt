-- The mapping tables, each by its mapping: its rows, and the texts of the statements on it.
use Rattle.std.specs.Prelude.{ℕ, List, ◌++◌, codes}
use Rattle.sqlite.specs.Table.{Table}
use Rattle.sheet_types.specs.Texts.{mapping_word}
use Rattle.sheet_types.specs.declared.command.Mapping.{Mapping}
use Rattle.sheet_types.specs.declared.command.Mapping.TheVariants.{TilesMedia, RowsMedia, RowsTiles}
use Rattle.package_tables.specs.Shape.{Shape}
use Rattle.package_tables.specs.Shapes.{mapping_shape}
use Rattle.package_tables.specs.Tables.{tiles_media, rows_media, rows_tiles}
use Rattle.package_tables.specs.Package.{Tables}
use Rattle.package_tables.specs.declared.rows.MappingRow.{MappingRow}

-- the table of a mapping
abbrev pub mapping_table : Mapping → ℕ → Table
mapping_table TilesMedia = tiles_media
mapping_table RowsMedia = rows_media
mapping_table RowsTiles = rows_tiles

-- what its rows say
abbrev pub pair_shape : Mapping → Shape MappingRow
pair_shape m = mapping_shape (mapping_table m)

-- its rows
abbrev pub mapping_rows : Mapping → Tables → List MappingRow
mapping_rows TilesMedia t = t.tiles_media
mapping_rows RowsMedia t = t.rows_media
mapping_rows RowsTiles t = t.rows_tiles

-- the tables with other rows in it
abbrev pub with_mapping_rows : Mapping → List MappingRow → Tables → Tables
with_mapping_rows TilesMedia rows t = record t { tiles_media = rows }
with_mapping_rows RowsMedia rows t = record t { rows_media = rows }
with_mapping_rows RowsTiles rows t = record t { rows_tiles = rows }

-- ---- texts

abbrev pub insert_text : Mapping → List ℕ
insert_text m = codes "INSERT INTO " ++ mapping_word m ++ codes " VALUES (?1, ?2)"

abbrev pub delete_text : Mapping → List ℕ
delete_text m = codes "DELETE FROM " ++ mapping_word m ++ codes " WHERE base_id = ?1 AND related_id = ?2"

abbrev pub of_ends_text : Mapping → List ℕ
of_ends_text m = codes "SELECT * FROM " ++ mapping_word m ++ codes " WHERE base_id = ?1 AND related_id = ?2"

abbrev pub of_base_text : Mapping → List ℕ
of_base_text m = codes "SELECT * FROM " ++ mapping_word m ++ codes " WHERE base_id = ?1"

abbrev pub of_related_text : Mapping → List ℕ
of_related_text m = codes "SELECT * FROM " ++ mapping_word m ++ codes " WHERE related_id = ?1"

abbrev pub all_text : Mapping → List ℕ
all_text m = codes "SELECT * FROM " ++ mapping_word m ++ codes " ORDER BY base_id, related_id"
