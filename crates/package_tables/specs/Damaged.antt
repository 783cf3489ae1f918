-- What is read of a store that may be damaged: nothing is asked of its database. Profile, over the tables of
-- GeoPackage 1.3 and OGC 18-000.
use Rattle.std.specs.Prelude.{◌≡◌, Bool, true, ◌≤◌, List, [], ◌∷◌, map, Option, Some, None}
use Rattle.std.specs.Prelude.{MatchOption, ℤ, pos, ⊤}
use Rattle.sqlite.specs.Effect.{Database}
use Rattle.store_sql.specs.Known.{IsQuiet}
use Rattle.sheet_types.specs.Matrix.{is_within}
use Rattle.sheet_types.specs.Lines.{IsUuid}
use Rattle.sheet_types.specs.Reading.{optional_uuid_text}
use Rattle.sheet_types.specs.Refuse.{greatest_depth}
use Rattle.sheet_types.specs.Texts.{uuid_text, is_moment}
use Rattle.sheet_types.specs.Opening.{Head, Claim}
use Rattle.package_tables.specs.Shape.{Shape, rows_of, IsFormed}
use Rattle.package_tables.specs.Shapes.{spatial_ref_sys_shape, contents_shape, tile_matrix_set_shape}
use Rattle.package_tables.specs.Shapes.{tile_matrix_shape, relation_shape, tile_shape, medium_shape, attribute_shape}
use Rattle.package_tables.specs.Shapes.{tiles_media_shape, rows_media_shape, rows_tiles_shape, head_shape}
use Rattle.package_tables.specs.Shapes.{identity_shape, receipt_shape, moved_shape}
use Rattle.package_tables.specs.declared.rows.HeadRow.{HeadRow}
use Rattle.package_tables.specs.declared.rows.ReceiptRow.{ReceiptRow}

-- ---- a table: its rows where it has its form, and nothing where it has not

abbrev pub ReadsTable : {R : Type 0} → Shape R → Database → Option (List R) → Type 0
ReadsTable shape db (Some rows) = IsFormed shape db × (rows ≡ rows_of shape db)
ReadsTable shape db None = IsFormed shape db → ⊥

-- ---- the head

abbrev pub is_version : ℤ → Bool
is_version v = is_within (pos 1) (pos 2) v

-- a row in its ranges, that says this. A version out of its range makes no head
pub record IsHeadRow (row : HeadRow) (head : Head) : Type 0 where
  pub id : row.id ≡ pos 1
  pub version : is_version row.version ≡ true
  pub uuid : IsUuid head.uuid
  pub parent_uuid : MatchOption head.parent ⊤ IsUuid
  pub «package» : row.package ≡ uuid_text head.uuid
  pub parent : row.parent ≡ optional_uuid_text head.parent
  pub depth : row.depth ≡ pos head.depth
  pub low : head.depth ≤ greatest_depth
  pub loan : row.loan ≡ pos head.loan
  pub loan_low : head.loan ≤ 1000000000
  pub created : is_moment row.created ≡ true

-- the table has its form and one row, which says this
abbrev pub IsHead : Database → HeadRow → Head → Type 0
IsHead db row head = IsFormed head_shape db × (rows_of head_shape db ≡ row ∷ []) × IsHeadRow row head

abbrev pub ReadsHead : Database → Option Head → Type 0
ReadsHead db (Some head) = (row : HeadRow) × IsHead db row head
ReadsHead db None = (row : HeadRow) (head : Head) → IsHead db row head → ⊥

-- ---- the claims

abbrev pub claim_of_row : ReceiptRow → Claim
claim_of_row r = record { seq = r.seq; line = r.line; source = r.source; target = r.target }

-- those of the rows, in their ranges or not; none where the table hasn't its form
abbrev pub ReadsClaims : Database → List Claim → Type 0
ReadsClaims db claims = (IsFormed receipt_shape db → claims ≡ map claim_of_row (rows_of receipt_shape db))
    × ((IsFormed receipt_shape db → ⊥) → claims ≡ [])

-- ---- all tables

-- each table of this version has its form. The first version has no table of the third mapping; a table more changes
-- nothing
pub record AreFormedAt (version : ℤ) (db : Database) : Type 0 where
  pub quiet : IsQuiet db.schema
  pub spatial_ref_sys : IsFormed spatial_ref_sys_shape db
  pub contents : IsFormed contents_shape db
  pub tile_matrix_set : IsFormed tile_matrix_set_shape db
  pub tile_matrix : IsFormed tile_matrix_shape db
  pub relations : IsFormed relation_shape db
  pub tiles : IsFormed tile_shape db
  pub media : IsFormed medium_shape db
  pub rows : IsFormed attribute_shape db
  pub tiles_media : IsFormed tiles_media_shape db
  pub rows_media : IsFormed rows_media_shape db
  pub rows_tiles : version ≡ pos 2 → IsFormed rows_tiles_shape db
  pub heads : IsFormed head_shape db
  pub identities : IsFormed identity_shape db
  pub receipts : IsFormed receipt_shape db
  pub moved : IsFormed moved_shape db
