-- Whether rows and identities of a store belong together, and mapping rows to both (OGC 18-000, user-defined mapping
-- tables; identities are profile); and what the UNIQUE constraints of the tables exclude.
use Rattle.std.specs.Prelude.{◌≡◌, ℤ, pos, Bool, true, ◌&&◌, ◌||◌, bytes_eq}
use Rattle.std.specs.List.{AllByRecursion, IsDistinct, list_any}
use Rattle.std.specs.Ordering.{int_eq}
use Rattle.sheet_types.specs.World.{kind_number, base_kind, other_kind}
use Rattle.sheet_types.specs.declared.command.Mapping.{Mapping}
use Rattle.sheet_types.specs.declared.command.Mapping.TheVariants.{TilesMedia, RowsMedia, RowsTiles}
use Rattle.package_tables.specs.Package.{Tables}
use Rattle.package_tables.specs.declared.rows.IdentityRow.{IdentityRow}
use Rattle.package_tables.specs.declared.rows.MappingRow.{MappingRow}
use Rattle.package_tables.specs.declared.rows.TileRow.{TileRow}
use Rattle.identity_register.specs.Numbering.{is_taken, is_pair}

-- the user table of a kind has a row of this number
abbrev pub has_row : ℤ → ℤ → Tables → Bool
has_row kind number t =
    (int_eq kind (pos 1) && list_any (λ r. int_eq r.id number) t.tiles)
    || (int_eq kind (pos 2) && list_any (λ r. int_eq r.id number) t.media)
    || (int_eq kind (pos 3) && list_any (λ r. int_eq r.id number) t.rows)

-- both numbers of a mapping row are those of rows, each of the table that the mapping relates
abbrev pub has_ends : Mapping → Tables → MappingRow → Bool
has_ends m t r = has_row (pos (kind_number (base_kind m))) r.base_id t && has_row (pos (kind_number (other_kind m)))
    r.related_id t

-- each row has an identity, each identity a row, and each mapping row the rows of its numbers
pub record AreTied (t : Tables) : Type 0 where
  pub tiles : AllByRecursion (λ r. is_taken (pos 1) r.id t ≡ true) t.tiles
  pub media : AllByRecursion (λ r. is_taken (pos 2) r.id t ≡ true) t.media
  pub rows : AllByRecursion (λ r. is_taken (pos 3) r.id t ≡ true) t.rows
  pub identities : AllByRecursion (λ r. has_row r.kind r.local_id t ≡ true) t.identities
  pub tiles_media : AllByRecursion (λ r. has_ends TilesMedia t r ≡ true) t.tiles_media
  pub rows_media : AllByRecursion (λ r. has_ends RowsMedia t r ≡ true) t.rows_media
  pub rows_tiles : AllByRecursion (λ r. has_ends RowsTiles t r ≡ true) t.rows_tiles

-- ---- what UNIQUE excludes

-- two identity rows of one row, and of one UUID
abbrev pub is_same_row : IdentityRow → IdentityRow → Bool
is_same_row a b = int_eq a.kind b.kind && int_eq a.local_id b.local_id

abbrev pub is_same_uuid : IdentityRow → IdentityRow → Bool
is_same_uuid a b = bytes_eq a.uuid b.uuid

-- two tiles in one place
abbrev pub is_same_place : TileRow → TileRow → Bool
is_same_place a b = int_eq a.zoom_level b.zoom_level && int_eq a.tile_column b.tile_column && int_eq a.tile_row
    b.tile_row

-- no identity, no place and no pair is there twice
pub record AreUnique (t : Tables) : Type 0 where
  pub numbers : IsDistinct is_same_row t.identities
  pub uuids : IsDistinct is_same_uuid t.identities
  pub places : IsDistinct is_same_place t.tiles
  pub tiles_media : IsDistinct is_pair t.tiles_media
  pub rows_media : IsDistinct is_pair t.rows_media
  pub rows_tiles : IsDistinct is_pair t.rows_tiles
