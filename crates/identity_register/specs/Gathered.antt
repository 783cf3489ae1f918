-- What the rows of whole tables say of the items and the links of a package.
use Rattle.std.specs.Prelude.{◌≡◌, ℕ, ℤ, pos, List, Contains, IsPermutation}
use Rattle.std.specs.List.{AllZip}
use Rattle.sheet_types.specs.Lines.{IsUuid}
use Rattle.sheet_types.specs.Texts.{uuid_text}
use Rattle.sheet_types.specs.World.{Package, kind_number, base_kind, other_kind}
use Rattle.sheet_types.specs.declared.command.Content.TheVariants.{Tile, Media, Row}
use Rattle.sheet_types.specs.declared.command.Item.{Item}
use Rattle.sheet_types.specs.declared.command.Mapping.{Mapping}
use Rattle.sheet_types.specs.declared.command.Relation.{Relation}
use Rattle.sheet_types.specs.declared.frame.Frame.{Frame}
use Rattle.package_tables.specs.Package.{Tables}
use Rattle.package_tables.specs.Mappings.{mapping_rows}
use Rattle.package_tables.specs.declared.rows.AttributeRow.{AttributeRow}
use Rattle.package_tables.specs.declared.rows.IdentityRow.{IdentityRow}
use Rattle.package_tables.specs.declared.rows.MappingRow.{MappingRow}
use Rattle.package_tables.specs.declared.rows.MediaRow.{MediaRow}
use Rattle.package_tables.specs.declared.rows.TileRow.{TileRow}
use Rattle.identity_register.specs.Answers.{IsContentOf}
use Rattle.identity_register.specs.Reads.{Says}
use Rattle.identity_register.specs.declared.whole.Placed.{Placed}

-- ---- items

-- the rows of the user tables, each under its kind and its number
abbrev pub tile_placed : TileRow → Placed
tile_placed r = record { kind = pos 1; number = r.id; content = Tile r.zoom_level r.tile_column r.tile_row r.tile_data }

abbrev pub medium_placed : MediaRow → Placed
medium_placed r = record { kind = pos 2; number = r.id; content = Media r.content_type r.data }

abbrev pub attributes_placed : AttributeRow → Placed
attributes_placed r = record { kind = pos 3; number = r.id; content = Row r.x r.y r.code r.label }

-- the tables have this content under the kind and the number
abbrev pub IsPlaced : Tables → Placed → Type 0
IsPlaced t x = IsContentOf x.kind x.number t x.content

-- the item of an identity row, where these are the contents
pub record IsItemOf (placed : List Placed) (r : IdentityRow) (i : Item) : Type 0 where
  pub identity : r.uuid ≡ uuid_text i.identity
  pub fit : IsUuid i.identity
  pub content : Contains placed (record { kind = r.kind; number = r.local_id; content = i.content })

-- the item of an identity row, with the content that the row's kind and number have
pub record IsReadOf (t : Tables) (r : IdentityRow) (i : Item) : Type 0 where
  pub text : r.uuid ≡ uuid_text i.identity
  pub fit : IsUuid i.identity
  pub there : IsContentOf r.kind r.local_id t i.content

-- all items of the package that the tables say, where these are all identity rows
abbrev pub AreItemsBy : List IdentityRow → Tables → List Item → Type 0
AreItemsBy rows t items = (f : Frame) (p : Package) → Says f p t → IsPermutation t.identities rows
    → items ≡ p.items

-- ---- links

-- the identity of a kind and a number, where these are the identity rows
pub record IsNamed (rows : List IdentityRow) (kind number : ℤ) (id : List ℕ) : Type 0 where
  pub row : IdentityRow
  pub there : Contains rows row
  pub kind_is : row.kind ≡ kind
  pub number_is : row.local_id ≡ number
  pub identity : row.uuid ≡ uuid_text id
  pub fit : IsUuid id

-- the link of a mapping row
pub record IsLinkOf (m : Mapping) (rows : List IdentityRow) (r : MappingRow) (l : Relation) : Type 0 where
  pub mapping : l.mapping ≡ m
  pub base : IsNamed rows (pos (kind_number (base_kind m))) r.base_id l.base
  pub other : IsNamed rows (pos (kind_number (other_kind m))) r.related_id l.other

-- the links of all rows of the table of a mapping
abbrev pub AreLinksIn : Mapping → List IdentityRow → Tables → List Relation → Type 0
AreLinksIn m rows t links = (stored : List MappingRow) × IsPermutation (mapping_rows m t) stored
    × AllZip (IsLinkOf m rows) stored links

-- all links of the package that the tables say, where these are all identity rows
abbrev pub AreLinksBy : List IdentityRow → Tables → List Relation → Type 0
AreLinksBy rows t links = (f : Frame) (p : Package) → Says f p t → IsPermutation t.identities rows
    → links ≡ p.links
