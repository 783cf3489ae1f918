-- The row that a SELECT shows of a value, column by column.
use Rattle.std.specs.Prelude.{◌≡◌, ◌⊎◌, ℕ, ◌<◌, ℤ, ◌≤ℤ◌, unsigned_abs, List, []}
use Rattle.std.specs.Prelude.{◌∷◌, map, Option, Some, MatchOption, slice_get, IsUtf8, IsPermutation}
use Rattle.sqlite_trees.specs.Tree.{IsAscending}
use Rattle.sqlite.specs.Order.{Row, column}
use Rattle.sqlite.specs.declared.types.Value.TheVariants.{Int, Text, Blob}
use Rattle.package_tables.specs.declared.rows.ReceiptRow.{ReceiptRow}
use Rattle.package_tables.specs.declared.rows.MovedRow.{MovedRow}
use Rattle.package_tables.specs.declared.rows.HeadRow.{HeadRow}
use Rattle.package_tables.specs.declared.rows.SpatialRefSysRow.{SpatialRefSysRow}
use Rattle.package_tables.specs.declared.rows.ContentsRow.{ContentsRow}
use Rattle.package_tables.specs.declared.rows.TileMatrixSetRow.{TileMatrixSetRow}
use Rattle.package_tables.specs.declared.rows.TileMatrixRow.{TileMatrixRow}
use Rattle.package_tables.specs.declared.rows.RelationRow.{RelationRow}
use Rattle.package_tables.specs.declared.rows.AttributeRow.{AttributeRow}
use Rattle.package_tables.specs.declared.rows.IdentityRow.{IdentityRow}
use Rattle.package_tables.specs.declared.rows.MappingRow.{MappingRow}
use Rattle.package_tables.specs.declared.rows.MediaRow.{MediaRow}
use Rattle.package_tables.specs.declared.rows.TileRow.{TileRow}

-- each text of a row is one: SQLite keeps any bytes as a text
abbrev pub AreTexts : Row → Type 0
AreTexts r = (at : ℕ) (text : List ℕ) → column r at ≡ Text text → IsUtf8 text

-- of one column, a number
abbrev pub number_shown : ℤ → Row
number_shown n = Int n ∷ []

abbrev pub tile_shown : TileRow → Row
tile_shown x = Int x.id ∷ Int x.zoom_level ∷ Int x.tile_column ∷ Int x.tile_row ∷ Blob x.tile_data ∷ []

abbrev pub medium_shown : MediaRow → Row
medium_shown x = Int x.id ∷ Blob x.data ∷ Text x.content_type ∷ []

abbrev pub attribute_shown : AttributeRow → Row
attribute_shown x = Int x.id ∷ Int x.x ∷ Int x.y ∷ Int x.code ∷ Text x.label ∷ []

abbrev pub mapping_shown : MappingRow → Row
mapping_shown x = Int x.base_id ∷ Int x.related_id ∷ []

abbrev pub identity_shown : IdentityRow → Row
identity_shown x = Int x.kind ∷ Int x.local_id ∷ Text x.uuid ∷ []

abbrev pub receipt_shown : ReceiptRow → Row
receipt_shown x = Int x.seq ∷ Text x.request ∷ Text x.at ∷ Text x.line ∷ Text x.source ∷ Text x.target
    ∷ Int x.n_tiles ∷ Int x.n_media ∷ Int x.n_rows ∷ Int x.n_links ∷ Int x.n_bytes ∷ []

abbrev pub moved_shown : MovedRow → Row
moved_shown x = Int x.seq ∷ Int x.position ∷ Int x.kind ∷ Text x.base ∷ Text x.other ∷ Int x.size
    ∷ Text x.fingerprint ∷ []

abbrev pub head_shown : HeadRow → Row
head_shown x = Int x.id ∷ Int x.version ∷ Text x.package ∷ Text x.parent ∷ Int x.depth ∷ Int x.loan
    ∷ Text x.created ∷ []

abbrev pub spatial_ref_sys_shown : SpatialRefSysRow → Row
spatial_ref_sys_shown x = Text x.srs_name ∷ Int x.srs_id ∷ Text x.organization ∷ Int x.organization_coordsys_id
    ∷ Text x.definition ∷ Text x.description ∷ []

abbrev pub contents_shown : ContentsRow → Row
contents_shown x = Text x.table_name ∷ Text x.data_type ∷ Text x.identifier ∷ Text x.description
    ∷ Text x.last_change ∷ Int x.min_x ∷ Int x.min_y ∷ Int x.max_x ∷ Int x.max_y ∷ Int x.srs_id ∷ []

abbrev pub tile_matrix_set_shown : TileMatrixSetRow → Row
tile_matrix_set_shown x = Text x.table_name ∷ Int x.srs_id ∷ Int x.min_x ∷ Int x.min_y ∷ Int x.max_x
    ∷ Int x.max_y ∷ []

abbrev pub tile_matrix_shown : TileMatrixRow → Row
tile_matrix_shown x = Text x.table_name ∷ Int x.zoom_level ∷ Int x.matrix_width ∷ Int x.matrix_height
    ∷ Int x.tile_width ∷ Int x.tile_height ∷ Int x.pixel_x_size ∷ Int x.pixel_y_size ∷ []

abbrev pub relation_shown : RelationRow → Row
relation_shown x = Int x.id ∷ Text x.base_table_name ∷ Text x.base_primary_column ∷ Text x.related_table_name
    ∷ Text x.related_primary_column ∷ Text x.relation_name ∷ Text x.mapping_table_name ∷ []

-- the first row of an answer, if there is one, begins with the number
abbrev pub BeginsWith : List Row → Option ℤ → Type 0
BeginsWith rows found = MatchOption found (rows ≡ []) (λ n. (r : Row) × (slice_get rows 0 ≡ Some r)
    × (column r 0 ≡ Int n))

-- numbers in the order in which a table has them (`number_key`): by their size, and of one size the lower first
abbrev pub InSize : ℤ → ℤ → Type 0
InSize a b = (unsigned_abs a < unsigned_abs b) ⊎ ((unsigned_abs a ≡ unsigned_abs b) × (a ≤ℤ b))

-- the rows show these numbers, which have come into that order
abbrev pub AreInSize : List Row → List ℤ → Type 0
AreInSize rows numbers = (read : List ℤ) × (rows ≡ map number_shown read) × IsPermutation read numbers
    × IsAscending InSize numbers
