-- When the tables of a store read as a package. OGC GeoPackage 1.3 and OGC 18-000 for the tables; identities,
-- receipts and the head are profile.
use Rattle.std.specs.Prelude.{◌≡◌, ℕ, pos, Bool, true, ◌&&◌, bytes_eq, List, [], ◌∷◌, map, flat_map}
use Rattle.std.specs.Prelude.{Option}
use Rattle.std.specs.List.{AllByRecursion, IsDistinct, enumerate_from}
use Rattle.std.specs.Option.{option_map_or}
use Rattle.hex.specs.Hex.{encode_lower}
use Rattle.sqlite.specs.Effect.{Database}
use Rattle.sheet_types.specs.Ordered.{arranged}
use Rattle.sheet_types.specs.Matrix.{is_good_frame}
use Rattle.sheet_types.specs.Reading.{optional_uuid_text}
use Rattle.sheet_types.specs.Texts.{uuid_text, is_moment}
use Rattle.sheet_types.specs.World.{Package, item_key, link_key, receipt_key, kind_number}
use Rattle.sheet_types.specs.Lines.{is_uuid, is_bytes}
use Rattle.sheet_types.specs.Register.{HasEnds}
use Rattle.sheet_types.specs.declared.command.Item.{Item}
use Rattle.sheet_types.specs.declared.command.Mapping.{Mapping}
use Rattle.sheet_types.specs.declared.command.Mapping.TheVariants.{TilesMedia, RowsMedia, RowsTiles}
use Rattle.sheet_types.specs.declared.command.Relation.{Relation}
use Rattle.sheet_types.specs.declared.frame.Frame.{Frame}
use Rattle.sheet_types.specs.declared.receipt.Moved.{Moved}
use Rattle.sheet_types.specs.declared.receipt.Receipt.{Receipt}
use Rattle.package_tables.specs.Mappings.{pair_shape}
use Rattle.package_tables.specs.Shapes.{tile_shape, medium_shape, attribute_shape, identity_shape, receipt_shape}
use Rattle.package_tables.specs.Shapes.{moved_shape}
use Rattle.package_tables.specs.Creation.{head_of}
use Rattle.package_tables.specs.Package.{Tables, tables_of, AreFormed}
use Rattle.package_tables.specs.Fixed.{HasFixed}
use Rattle.package_tables.specs.declared.rows.AttributeRow.{AttributeRow}
use Rattle.package_tables.specs.declared.rows.ContentsRow.{ContentsRow}
use Rattle.package_tables.specs.declared.rows.HeadRow.{HeadRow}
use Rattle.package_tables.specs.declared.rows.IdentityRow.{IdentityRow}
use Rattle.package_tables.specs.declared.rows.MappingRow.{MappingRow}
use Rattle.package_tables.specs.declared.rows.MediaRow.{MediaRow}
use Rattle.package_tables.specs.declared.rows.MovedRow.{MovedRow}
use Rattle.package_tables.specs.declared.rows.ReceiptRow.{ReceiptRow}
use Rattle.package_tables.specs.declared.rows.TileRow.{TileRow}
use Rattle.identity_register.specs.Numbering.{Numbered, IsNumbering, tile_rows, media_rows, attribute_rows}
use Rattle.identity_register.specs.Numbering.{identity_row, rows_in}

-- the head of a package, made at a moment
abbrev pub head_row : Package → List ℕ → HeadRow
head_row p created = head_of p.uuid p.parent p.depth p.loan created

abbrev pub receipt_row : Receipt → ReceiptRow
receipt_row r = record {
  seq = pos r.seq;
  request = uuid_text r.request;
  at = r.at;
  line = r.line;
  source = optional_uuid_text r.source;
  target = optional_uuid_text r.target;
  n_tiles = pos r.tiles;
  n_media = pos r.media;
  n_rows = pos r.rows;
  n_links = pos r.links;
  n_bytes = pos r.bytes;
}

abbrev pub moved_row : ℕ → ℕ → Moved → MovedRow
moved_row seq position m = record {
  seq = pos seq;
  position = pos position;
  kind = pos (kind_number m.kind);
  base = uuid_text m.base;
  other = optional_uuid_text m.other;
  size = pos m.size;
  fingerprint = option_map_or encode_lower m.fingerprint [];
}

-- the things that a receipt moved, by their positions from 0
abbrev pub moved_rows : Receipt → List MovedRow
moved_rows r = map (λ m. moved_row r.seq m.0 m.1) (enumerate_from 0 r.items)

-- the UUIDs and digests of a receipt are such (RFC 9562, section 4; FIPS 180-4, section 6.2), so that their texts can
-- be read back
abbrev pub is_fit_end : Option (List ℕ) → Bool
is_fit_end end = option_map_or is_uuid end true

abbrev pub is_fit_moved : Moved → Bool
is_fit_moved m = is_uuid m.base && is_fit_end m.other && option_map_or (is_bytes 32) m.fingerprint true

pub record IsFitReceipt (r : Receipt) : Type 0 where
  pub request : is_uuid r.request ≡ true
  pub source : is_fit_end r.source ≡ true
  pub target : is_fit_end r.target ≡ true
  pub items : AllByRecursion (λ m. is_fit_moved m ≡ true) r.items

-- the UUIDs of a package's head are such
pub record IsFitHead (own : List ℕ) (above : Option (List ℕ)) : Type 0 where
  pub uuid : is_uuid own ≡ true
  pub parent : is_fit_end above ≡ true

-- A part of what tables say speaks of its own lists alone, so that it holds as it stands where others change.

-- The numbered items are the package's; their rows and those of their identities are all that these tables hold.
pub record SaysItems (numbered : List Numbered) (of_package : List Item) (tile_table : List TileRow)
    (medium_table : List MediaRow) (row_table : List AttributeRow) (identity_table : List IdentityRow) : Type 0 where
  pub numbers : IsNumbering numbered
  pub items : of_package ≡ arranged item_key (map (λ n. n.item) numbered)
  pub tiles : tile_table ≡ arranged tile_shape.key (flat_map (λ n. tile_rows n.number n.item.content) numbered)
  pub media : medium_table ≡ arranged medium_shape.key (flat_map (λ n. media_rows n.number n.item.content) numbered)
  pub rows : row_table ≡ arranged attribute_shape.key (flat_map (λ n. attribute_rows n.number n.item.content)
      numbered)
  pub identities : identity_table ≡ arranged identity_shape.key (map identity_row numbered)

-- the table of a mapping holds the rows of its links, by the numbers of their ends, and no others
abbrev pub SaysPairs : Mapping → List Numbered → List Relation → List MappingRow → Type 0
SaysPairs m numbered linked table = table ≡ arranged (pair_shape m).key (flat_map (rows_in m numbered) linked)

-- The links are the package's, each once; their rows are all that the mapping tables hold.
pub record SaysLinks (numbered : List Numbered) (linked of_package : List Relation)
    (tiles_media_table rows_media_table rows_tiles_table : List MappingRow) : Type 0 where
  pub distinct_links : IsDistinct bytes_eq (map link_key linked)
  pub links : of_package ≡ arranged link_key linked
  pub tiles_media : SaysPairs TilesMedia numbered linked tiles_media_table
  pub rows_media : SaysPairs RowsMedia numbered linked rows_media_table
  pub rows_tiles : SaysPairs RowsTiles numbered linked rows_tiles_table

-- The receipts are the package's, each once and fit to be read back; their rows and those of what they moved are all
-- that these tables hold.
pub record SaysReceipts (entered of_package : List Receipt) (receipt_table : List ReceiptRow)
    (moved_table : List MovedRow) : Type 0 where
  pub distinct_receipts : IsDistinct bytes_eq (map receipt_key entered)
  pub fit : AllByRecursion IsFitReceipt entered
  pub kept : of_package ≡ arranged receipt_key entered
  pub receipts : receipt_table ≡ arranged receipt_shape.key (map receipt_row entered)
  pub moved : moved_table ≡ arranged moved_shape.key (flat_map moved_rows entered)

-- each row of the contents says a moment of the last change (OGC GeoPackage 1.3, 1.1.3)
abbrev pub SayMoments : List ContentsRow → Type 0
SayMoments listed = AllByRecursion (λ c. is_moment c.last_change ≡ true) listed

-- The tables say this package: its items under some numbers, its links and its receipts, in whatever order they came,
-- are all that the tables hold.
pub record Says (f : Frame) (p : Package) (t : Tables) : Type 0 where
  pub good : is_good_frame f ≡ true
  pub fixed : HasFixed f t
  pub dated : SayMoments t.contents
  pub created : List ℕ
  pub moment : is_moment created ≡ true
  pub fit_head : IsFitHead p.uuid p.parent
  pub head : t.heads ≡ head_row p created ∷ []
  pub numbered : List Numbered
  pub of_items : SaysItems numbered p.items t.tiles t.media t.rows t.identities
  pub open of_items use *
  pub linked : List Relation
  pub ends : AllByRecursion (HasEnds p) linked
  pub of_links : SaysLinks numbered linked p.links t.tiles_media t.rows_media t.rows_tiles
  pub open of_links use *
  pub entered : List Receipt
  pub of_receipts : SaysReceipts entered p.receipts t.receipts t.moved
  pub open of_receipts use *

-- a database reads as this package
pub record Reads (f : Frame) (p : Package) (db : Database) : Type 0 where
  pub formed : AreFormed db
  pub says : Says f p (tables_of db)
