-- The ranges of the rows of tiles, media, attributes, identities and mappings in a store that may be damaged. Tiles
-- by OGC GeoPackage 1.3, 2.2.7 and 2.2.8, attributes by 2.4.2, media and mappings by OGC 18-000; the bounds are
-- profile.
use Rattle.std.specs.Prelude.{◌≡◌, ℕ, ℤ, pos, Bool, true, not, ◌==◌, ◌&&◌, List}
use Rattle.std.specs.List.{AllByRecursion, list_any, list_all}
use Rattle.sheet_types.specs.Lines.{IsUuid}
use Rattle.sheet_types.specs.Matrix.{is_within, has_place, in_frame}
use Rattle.sheet_types.specs.Refuse.{is_length_within, is_printable}
use Rattle.sheet_types.specs.Texts.{uuid_text}
use Rattle.sheet_types.specs.declared.frame.Frame.{Frame}
use Rattle.package_tables.specs.Package.{Tables}
use Rattle.package_tables.specs.declared.rows.AttributeRow.{AttributeRow}
use Rattle.package_tables.specs.declared.rows.IdentityRow.{IdentityRow}
use Rattle.package_tables.specs.declared.rows.MappingRow.{MappingRow}
use Rattle.package_tables.specs.declared.rows.MediaRow.{MediaRow}
use Rattle.package_tables.specs.declared.rows.TileRow.{TileRow}

-- a local number, 1 to 1,000,000
abbrev pub is_local : ℤ → Bool
is_local n = is_within (pos 1) (pos 1000000) n

-- a place of the frame; data of 1 to 1,048,576 bytes
abbrev pub is_tile_in_range : Frame → TileRow → Bool
is_tile_in_range f r = is_local r.id && has_place f r.zoom_level r.tile_column r.tile_row && is_length_within 1
    1048576 r.tile_data

-- data of 1 to 1,048,576 bytes; a content type of 1 to 100 bytes, each from 32 to 126
abbrev pub is_medium_in_range : MediaRow → Bool
is_medium_in_range r = is_local r.id && is_length_within 1 1048576 r.data && is_length_within 1 100 r.content_type &&
    list_all is_printable r.content_type

-- a point in the frame; a code from 0 to 999,999; a label of 0 to 200 bytes without LF
abbrev pub is_row_in_range : Frame → AttributeRow → Bool
is_row_in_range f r = is_local r.id && in_frame f r.x r.y && is_within (pos 0) (pos 999999) r.code && is_length_within
    0 200 r.label && not (list_any (λ c. c == 10) r.label)

-- the text of a UUID in lower case (RFC 9562, section 4)
abbrev pub IsUuidText : List ℕ → Type 0
IsUuidText text = (id : List ℕ) × IsUuid id × (text ≡ uuid_text id)

-- kind 1 tile, 2 medium, 3 row
pub record IsIdentityInRange (r : IdentityRow) : Type 0 where
  pub kind : is_within (pos 1) (pos 3) r.kind ≡ true
  pub number : is_local r.local_id ≡ true
  pub uuid : IsUuidText r.uuid

abbrev pub is_pair_in_range : MappingRow → Bool
is_pair_in_range r = is_local r.base_id && is_local r.related_id

-- each row of these tables is in its ranges
pub record AreItemsInRange (f : Frame) (t : Tables) : Type 0 where
  pub tiles : AllByRecursion (λ r. is_tile_in_range f r ≡ true) t.tiles
  pub media : AllByRecursion (λ r. is_medium_in_range r ≡ true) t.media
  pub rows : AllByRecursion (λ r. is_row_in_range f r ≡ true) t.rows
  pub identities : AllByRecursion IsIdentityInRange t.identities
  pub tiles_media : AllByRecursion (λ r. is_pair_in_range r ≡ true) t.tiles_media
  pub rows_media : AllByRecursion (λ r. is_pair_in_range r ≡ true) t.rows_media
  pub rows_tiles : AllByRecursion (λ r. is_pair_in_range r ≡ true) t.rows_tiles
