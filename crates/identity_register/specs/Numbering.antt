-- How the rows of a package's tables stand for items under lasting identities. Items are rows of user data tables
-- (OGC GeoPackage 1.3, 2.2.8 and 2.4.2; OGC 18-000, media), links rows of user-defined mapping tables (OGC 18-000);
-- local numbers and `sheet_identity` are profile.
use Rattle.std.specs.Prelude.{◌≡◌, ℕ, ℤ, pos, Bool, true, false, not, Contains, Option, Some, None}
use Rattle.std.specs.Prelude.{◌+ℤ◌, ◌&&◌}
use Rattle.std.specs.Prelude.{if◌then◌else◌, List, [], ◌∷◌, map, filter, find, bytes_eq, unsigned_abs}
use Rattle.std.specs.Ordering.{int_eq}
use Rattle.std.specs.List.{AllByRecursion, IsDistinct, list_any}
use Rattle.std.specs.Option.{option_map_or}
use Rattle.sheet_types.specs.Ordered.{put}
use Rattle.sheet_types.specs.Matrix.{is_within}
use Rattle.sheet_types.specs.Texts.{uuid_text, kind_of}
use Rattle.sheet_types.specs.World.{kind_number, kind_is, link_kind}
use Rattle.sheet_types.specs.Lines.{IsUuid}
use Rattle.sheet_types.specs.declared.command.Content.{Content}
use Rattle.sheet_types.specs.declared.command.Content.TheVariants.{Tile, Media, Row}
use Rattle.sheet_types.specs.declared.command.Item.{Item}
use Rattle.sheet_types.specs.declared.command.Mapping.{Mapping}
use Rattle.sheet_types.specs.declared.command.Relation.{Relation}
use Rattle.package_tables.specs.Shapes.{tile_shape, medium_shape, attribute_shape, identity_shape}
use Rattle.package_tables.specs.Package.{Tables}
use Rattle.package_tables.specs.Mappings.{pair_shape, mapping_rows, with_mapping_rows}
use Rattle.package_tables.specs.Listed.{tiles, media, attributes}
use Rattle.package_tables.specs.Changes.{Adds}
use Rattle.package_tables.specs.declared.rows.TileRow.{TileRow}
use Rattle.package_tables.specs.declared.rows.MediaRow.{MediaRow}
use Rattle.package_tables.specs.declared.rows.AttributeRow.{AttributeRow}
use Rattle.package_tables.specs.declared.rows.MappingRow.{MappingRow}
use Rattle.package_tables.specs.declared.rows.IdentityRow.{IdentityRow}
use Rattle.identity_register.specs.declared.changes.EndRows.{EndRows}

-- an item and the local number of its row
pub record Numbered : Type 0 where
  pub number : ℤ
  pub item : Item

abbrev pub greatest_number : ℤ
greatest_number = pos 1000000

-- a kind and a number, which name a row
abbrev pub place_in_tables : Numbered → List ℕ
place_in_tables n = kind_number (kind_of n.item.content) ∷ unsigned_abs n.number ∷ []

-- numbers from 1 to 1,000,000, each once in its kind; identities of 16 bytes, each once
pub record IsNumbering (numbered : List Numbered) : Type 0 where
  pub range : AllByRecursion (λ n. is_within (pos 1) greatest_number n.number ≡ true) numbered
  pub numbers : IsDistinct bytes_eq (map place_in_tables numbered)
  pub identities : IsDistinct bytes_eq (map (λ n. n.item.identity) numbered)
  pub uuids : AllByRecursion (λ n. IsUuid n.item.identity) numbered

-- ---- the rows of an item

abbrev pub tile_rows : ℤ → Content → List TileRow
tile_rows number (Tile zoom column row bytes) = record {
  id = number;
  zoom_level = zoom;
  tile_column = column;
  tile_row = row;
  tile_data = bytes;
} ∷ []
tile_rows number (Media content_type bytes) = []
tile_rows number (Row x y code label) = []

abbrev pub media_rows : ℤ → Content → List MediaRow
media_rows number (Tile zoom column row bytes) = []
media_rows number (Media content_type bytes) = record { id = number; «data» = bytes; content_type = content_type }
    ∷ []
media_rows number (Row x y code label) = []

abbrev pub attribute_rows : ℤ → Content → List AttributeRow
attribute_rows number (Tile zoom column row bytes) = []
attribute_rows number (Media content_type bytes) = []
attribute_rows number (Row x y code label) = record { id = number; x = x; y = y; code = code; label = label } ∷ []

abbrev pub identity_row : Numbered → IdentityRow
identity_row n = record {
  kind = pos (kind_number (kind_of n.item.content));
  local_id = n.number;
  uuid = uuid_text n.item.identity;
}

-- ---- the rows of a link

-- the local number of an identity; 0 where there is no such item
abbrev pub number_of : List Numbered → List ℕ → ℤ
number_of numbered id = option_map_or (λ n. n.number) (find (λ n. bytes_eq n.item.identity id) numbered) (pos 0)

abbrev pub mapping_row : List Numbered → Relation → MappingRow
mapping_row numbered l = record { base_id = number_of numbered l.base; related_id = number_of numbered l.other }

-- the two mappings are one
abbrev pub mapping_is : Mapping → Mapping → Bool
mapping_is a b = kind_is (link_kind a) (link_kind b)

-- the rows that the table of a mapping has of a link
abbrev pub rows_in : Mapping → List Numbered → Relation → List MappingRow
rows_in m numbered l = if mapping_is l.mapping m then mapping_row numbered l ∷ [] else []

-- ---- an item more

-- rows that come to their places
abbrev pub puts : {X : Type 0} → (X → List ℕ) → List X → List X → List X
puts key [] xs = xs
puts key (x ∷ new) xs = put key x (puts key new xs)

-- the tables with the rows of one item more
abbrev pub with_item : Numbered → Tables → Tables
with_item n t = record t {
  tiles = puts tile_shape.key (tile_rows n.number n.item.content) t.tiles;
  media = puts medium_shape.key (media_rows n.number n.item.content) t.media;
  rows = puts attribute_shape.key (attribute_rows n.number n.item.content) t.rows;
  identities = put identity_shape.key (identity_row n) t.identities;
}

-- ---- an item less

-- the tables without the row of a user table, by the kind and the number that are stored
abbrev pub without_content : ℤ → ℤ → Tables → Tables
without_content kind number t = record t {
  tiles = if int_eq kind (pos 1) then filter (λ r. not (int_eq r.id number)) t.tiles else t.tiles;
  media = if int_eq kind (pos 2) then filter (λ r. not (int_eq r.id number)) t.media else t.media;
  rows = if int_eq kind (pos 3) then filter (λ r. not (int_eq r.id number)) t.rows else t.rows;
}

-- the tables without the identity row of this kind and number
abbrev pub without_identity : ℤ → ℤ → Tables → Tables
without_identity kind number t = record t {
  identities = filter
      (λ r. not (int_eq r.kind kind && int_eq r.local_id number)) t.identities;
}

abbrev pub DropsContent : ℤ → ℤ → Tables → Tables → Type 0
DropsContent kind number before after = after ≡ without_content kind number before

abbrev pub DropsRows : ℤ → ℤ → Tables → Tables → Type 0
DropsRows kind number before after = after ≡ without_identity kind number (without_content kind number before)

-- ---- links

-- the tables with the row of one link more
abbrev pub with_link : Mapping → MappingRow → Tables → Tables
with_link m row t = with_mapping_rows m (put (pair_shape m).key row (mapping_rows m t)) t

abbrev pub is_pair : MappingRow → MappingRow → Bool
is_pair a b = int_eq a.base_id b.base_id && int_eq a.related_id b.related_id

-- the tables without the row of a link
abbrev pub without_link : Mapping → MappingRow → Tables → Tables
without_link m row t = with_mapping_rows m (filter (λ r. not (is_pair r row)) (mapping_rows m t)) t

-- the identity row of a UUID
abbrev pub IsRowOf : List ℕ → Tables → IdentityRow → Type 0
IsRowOf id t r = Contains t.identities r × (bytes_eq r.uuid (uuid_text id) ≡ true)

-- those of the ends of a link
abbrev pub AreRowsOfEnds : List ℕ → List ℕ → Tables → EndRows → Type 0
AreRowsOfEnds base other t rows = IsRowOf base t rows.base × IsRowOf other t rows.other

-- ---- a free number

-- the number after the greatest, and 1 where there is none; none where no number that may be is the one after it
abbrev pub number_after : Option ℤ → Option ℤ
number_after None = Some (pos 1)
number_after (Some n) = if is_within (pos 1) (pos 999999) n then Some (n +ℤ pos 1) else None

-- an identity row has this kind and number
abbrev pub is_taken : ℤ → ℤ → Tables → Bool
is_taken kind number t = list_any (λ x. int_eq x.kind kind && int_eq x.local_id number) t.identities

abbrev pub IsTaken : ℤ → ℤ → Tables → Bool → Type 0
IsTaken kind number t taken = taken ≡ is_taken kind number t

-- a number that no identity row of the kind has
abbrev pub IsGap : ℤ → Tables → ℤ → Type 0
IsGap kind t number = (is_within (pos 1) greatest_number number ≡ true) × (is_taken kind number t ≡ false)

-- each number of the kind is taken
abbrev pub AreTaken : ℤ → Tables → Type 0
AreTaken kind t = (number : ℤ) → is_within (pos 1) greatest_number number ≡ true
    → is_taken kind number t ≡ true

-- a gap, and none where each number is taken
abbrev pub FindsGap : ℤ → Tables → Option ℤ → Type 0
FindsGap kind t (Some number) = IsGap kind t number
FindsGap kind t None = AreTaken kind t

-- the row of a content comes in, where its number is free
abbrev pub AddsContent : ℤ → Content → Tables → Tables → Type 0
AddsContent number (Tile zoom column row bytes) before after =
    Adds tiles (record { id = number; zoom_level = zoom; tile_column = column; tile_row = row; tile_data = bytes })
    before after
AddsContent number (Media content_type bytes) before after =
    Adds media (record { id = number; «data» = bytes; content_type = content_type }) before after
AddsContent number (Row x y code label) before after = Adds attributes
    (record { id = number; x = x; y = y; code = code; label = label }) before after
