-- The SQL that makes a package into a GeoPackage for other programs (OGC GeoPackage 1.3; OGC 18-000).
use Rattle.std.specs.Prelude.{ℕ, List, [], ◌∷◌, ◌++◌, Option, Some, None, ℤ, codes, decimal, flat_map}
use Rattle.std.specs.Fmt.{signed_decimal}
use Rattle.sheet_types.specs.Matrix.{tile_ground}
use Rattle.sheet_types.specs.Texts.{mapping_word}
use Rattle.sheet_types.specs.declared.command.Content.{Content}
use Rattle.sheet_types.specs.declared.command.Content.TheVariants.{Tile, Media, Row}
use Rattle.sheet_types.specs.declared.command.Item.{Item}
use Rattle.sheet_types.specs.declared.command.Relation.{Relation}
use Rattle.sheet_types.specs.declared.frame.Frame.{Frame}
use Rattle.sheet_types.specs.declared.frame.Ground.{Ground}
use Rattle.view_export.specs.declared.numbers.Counts.{Counts}
use Rattle.view_export.specs.FixedRows.{fixed_rows}
use Rattle.view_export.specs.Numbers.{counted, next_number, no_counts, number_of}
use Rattle.view_export.specs.Points.{outline, point}
use Rattle.view_export.specs.Schema.{schema}
use Rattle.view_export.specs.Statements.{blob, ended, insert, text_literal, uuid_literal}
use Rattle.view_export.specs.Styles.{styles}

-- ---- items and links

abbrev pub tile_row : ℕ → ℤ → ℤ → ℤ → List ℕ → List ℕ
tile_row n zoom column row bytes = insert (codes "sheet_tiles")
    (decimal n ∷ signed_decimal zoom ∷ signed_decimal column ∷ signed_decimal row ∷ blob bytes ∷ [])

-- the ground of a tile as a geometry, and none where the frame has no such place
abbrev pub drawn : ℤ → Option Ground → List ℕ
drawn srs None = codes "NULL"
drawn srs (Some g) = blob (outline srs g)

abbrev pub tile_outline : Frame → ℤ → ℤ → ℤ → List ℕ
tile_outline f zoom column row = drawn f.srs_id (tile_ground f zoom column row)

-- three values with commas between them
abbrev pub place : ℤ → ℤ → ℤ → List ℕ
place zoom column row =
    signed_decimal zoom ++ (codes "," ++ (signed_decimal column ++ (codes "," ++ signed_decimal row)))

-- The identity of a tile, its outline and its place, in a table of its own, since a tile pyramid table has five
-- columns (2.2.8).
abbrev pub tile_identity_row : ℕ → List ℕ → List ℕ → ℤ → ℤ → ℤ → List ℕ
tile_identity_row n geometry id zoom column row = insert (codes "sheet_tile_identity")
    (decimal n ∷ geometry ∷ uuid_literal id ∷ place zoom column row ∷ [])

abbrev pub medium_row : ℕ → List ℕ → List ℕ → List ℕ → List ℕ
medium_row n id content_type bytes =
    insert (codes "sheet_media") (decimal n ∷ blob bytes ∷ text_literal content_type ∷ uuid_literal id ∷ [])

-- an attributes row as a feature of this geometry
abbrev pub feature_row : ℕ → List ℕ → List ℕ → ℤ → List ℕ → List ℕ
feature_row n id geometry code label =
    insert (codes "sheet_rows") (decimal n ∷ geometry ∷ signed_decimal code ∷ text_literal label
    ∷ uuid_literal id ∷ [])

-- a tile, and the row that names it
abbrev pub tile_rows : Frame → ℕ → List ℕ → ℤ → ℤ → ℤ → List ℕ → List ℕ
tile_rows f n id zoom column row bytes =
    tile_row n zoom column row bytes ++ tile_identity_row n (tile_outline f zoom column row) id zoom column row

-- an item under this number, in the table of its kind
abbrev pub content_rows : Frame → ℕ → List ℕ → Content → List ℕ
content_rows f n id (Tile zoom column row bytes) = tile_rows f n id zoom column row bytes
content_rows f n id (Media content_type bytes) = medium_row n id content_type bytes
content_rows f n id (Row x y code label) = feature_row n id (blob (point f.srs_id x y)) code label

abbrev pub item_rows : Frame → ℕ → Item → List ℕ
item_rows f n item = content_rows f n item.identity item.content

-- items behind so many, each under the next number of its kind
abbrev pub items_behind : Frame → Counts → List Item → List ℕ
items_behind f c [] = []
items_behind f c (item ∷ items) =
    item_rows f (next_number c item.content) item ++ items_behind f (counted c item.content) items

-- a link in this table by the numbers of its ends; its own key is the next, by the table
abbrev pub pair_row : List ℕ → ℕ → ℕ → List ℕ
pair_row name base other =
    codes "INSERT INTO " ++ (name ++ (codes " (base_id,related_id) VALUES ("
    ++ ended (decimal base ∷ decimal other ∷ [])))

abbrev pub link_row : List Item → Relation → List ℕ
link_row items link = pair_row (mapping_word link.mapping) (number_of items link.base) (number_of items link.other)

-- ---- the whole

-- A transaction, so that a text that is cut short makes nothing; the application `GPKG` and the version 1.3.0.
abbrev pub beginning : List ℕ
beginning = codes "BEGIN;\nPRAGMA application_id = 1196444487;\nPRAGMA user_version = 10300;\n"

abbrev pub closing : List ℕ
closing = codes "COMMIT;\n"

-- the package, and the number of the last receipt of it
abbrev pub export_row : List ℕ → ℕ → List ℕ
export_row p ticket = insert (codes "sheet_export") (uuid_literal p ∷ decimal ticket ∷ [])

-- what stands before items and links
abbrev pub opening : Frame → List ℕ → ℕ → List ℕ
opening f p ticket = beginning ++ (schema ++ (fixed_rows f p ++ (styles ++ export_row p ticket)))

-- a package of this frame and ticket that holds these items and links
abbrev pub export_text : Frame → List ℕ → ℕ → List Item → List Relation → List ℕ
export_text f p ticket items links =
    opening f p ticket ++ (items_behind f no_counts items ++ (flat_map (link_row items) links ++ closing))
