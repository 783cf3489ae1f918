-- The sheet, the crews and the requests that the examples speak of.
use Rattle.std.specs.Prelude.{ℕ, List, [], ◌∷◌, map, Option, Result, Ok, Err, pos, codes}
use Rattle.sheet_types.specs.World.{World, holdings, new_world}
use Rattle.sheet_types.specs.Step.{outcome, relation}
use Rattle.sheet_types.specs.declared.command.Command.{Command}
use Rattle.sheet_types.specs.declared.command.Content.{Content}
use Rattle.sheet_types.specs.declared.command.Content.TheVariants.{Tile, Media, Row}
use Rattle.sheet_types.specs.declared.command.Mapping.TheVariants.{TilesMedia, RowsMedia, RowsTiles}
use Rattle.sheet_types.specs.declared.command.Relation.{Relation}
use Rattle.sheet_types.specs.declared.command.Request.{Request}
use Rattle.sheet_types.specs.declared.frame.Frame.{Frame}
use Rattle.sheet_types.specs.declared.frame.Rect.{Rect}
use Rattle.sheet_types.specs.declared.receipt.Receipt.{Receipt}
use Rattle.sheet_types.specs.declared.refusal.Refusal.{Refusal}

-- 4096 units each way, three zooms of 1, 4 and 16 tiles of 256 pixels; the sizes of a pixel are 16, 8 and 4
abbrev pub sheet : Frame
sheet = record {
  srs_id = pos 25832;
  min_x = pos 0;
  min_y = pos 0;
  max_x = pos 4096;
  max_y = pos 4096;
  tile_width = pos 256;
  tile_height = pos 256;
  first_zoom = pos 0;
  levels = pos 3;
  matrix_width = pos 1;
  matrix_height = pos 1;
}

-- UUIDs that differ in the first and in the last byte
abbrev pub id : ℕ → ℕ → List ℕ
id first last = first ∷ 0 ∷ 0 ∷ 0 ∷ 0 ∷ 0 ∷ 64 ∷ 0 ∷ 128 ∷ 0 ∷ 0 ∷ 0 ∷ 0 ∷ 0 ∷ 0 ∷ last
    ∷ []

-- a0000000-.. to f0000000-..
abbrev pub archive : List ℕ
archive = id 160 0

abbrev pub crew : List ℕ
crew = id 176 0

abbrev pub second_crew : List ℕ
second_crew = id 192 0

abbrev pub third_crew : List ℕ
third_crew = id 208 0

abbrev pub fourth_crew : List ℕ
fourth_crew = id 224 0

abbrev pub fifth_crew : List ℕ
fifth_crew = id 240 0

-- 00000000-..-01 and so on, the identities of items; 90000000-..-01 and so on, of requests
abbrev pub item : ℕ → List ℕ
item n = id 0 n

abbrev pub request : ℕ → List ℕ
request n = id 144 n

abbrev pub morning : List ℕ
morning = codes "2024-05-01T08:00:00.000Z"

abbrev pub noon : List ℕ
noon = codes "2024-05-01T12:00:00.000Z"

abbrev pub ask : ℕ → Command → Request
ask n command = record { id = request n; at = morning; command = command }

abbrev pub ask_at : List ℕ → ℕ → Command → Request
ask_at moment n command = record { id = request n; at = moment; command = command }

abbrev pub new_archive : World
new_archive = new_world archive sheet

-- the world after requests
abbrev pub after_all : World → List Request → World
after_all w [] = w
after_all w (q ∷ qs) = after_all (outcome w q).1 qs

-- the number, the counts by kind and the bytes of a receipt, and its ends
abbrev pub shown : Result Receipt Refusal → Result (List ℕ × Option (List ℕ) × Option (List ℕ)) Refusal
shown (Ok r) = Ok (r.seq ∷ r.tiles ∷ r.media ∷ r.rows ∷ r.links ∷ r.bytes ∷ [], r.source, r.target)
shown (Err why) = Err why

abbrev pub replied : World → Request → Result (List ℕ × Option (List ℕ) × Option (List ℕ)) Refusal
replied w q = shown (outcome w q).0

-- the number of the receipt, or the refusal
abbrev pub numbered : Result Receipt Refusal → Result ℕ Refusal
numbered (Ok r) = Ok r.seq
numbered (Err why) = Err why

abbrev pub answer : World → Request → Result ℕ Refusal
answer w q = numbered (outcome w q).0

-- a tile of one byte, A, and one of other bytes
abbrev pub tile : ℕ → ℕ → ℕ → Content
tile zoom column row = Tile (pos zoom) (pos column) (pos row) (65 ∷ [])

abbrev pub tile_of : ℕ → ℕ → ℕ → List ℕ → Content
tile_of zoom column row bytes = Tile (pos zoom) (pos column) (pos row) bytes

-- a picture of two bytes, JP
abbrev pub picture : Content
picture = Media (codes "image/jpeg") (74 ∷ 80 ∷ [])

-- a row without label
abbrev pub row_at : ℕ → ℕ → Content
row_at x y = Row (pos x) (pos y) (pos 0) []

abbrev pub block : ℕ → ℕ → ℕ → ℕ → ℕ → Rect
block zoom column last_column row last_row = record {
  zoom = pos zoom;
  column = pos column;
  last_column = pos last_column;
  row = pos row;
  last_row = pos last_row;
}

-- the upper left quarter of the sheet
abbrev pub quarter : Rect
quarter = block 1 0 0 0 0

abbrev pub tile_link : ℕ → ℕ → Relation
tile_link base media = relation TilesMedia (item base) (item media)

abbrev pub row_link : ℕ → ℕ → Relation
row_link base media = relation RowsMedia (item base) (item media)

abbrev pub tile_of_row : ℕ → ℕ → Relation
tile_of_row base tile = relation RowsTiles (item base) (item tile)

-- the identities and the links that a package holds
abbrev pub held : World → List ℕ → List (List ℕ)
held w p = map (λ i. i.identity) (holdings w p).items

abbrev pub links_held : World → List ℕ → List Relation
links_held w p = (holdings w p).links
