-- Which record of a list of what a file holds is which entry. Profile, over RFC 9562 for UUIDs.
use Rattle.std.specs.Prelude.{◌≡◌, ℕ, ℤ, List, [], ◌∷◌, Option, Some, None, codes}
use Rattle.sheet_types.specs.Reading.{frame_text, IsInRange}
use Rattle.sheet_types.specs.Texts.{kind_of, kind_word, mapping_word}
use Rattle.sheet_types.specs.declared.command.Content.{Content}
use Rattle.sheet_types.specs.declared.command.Content.TheVariants.{Tile, Media, Row}
use Rattle.sheet_types.specs.declared.frame.Frame.{Frame}
use Rattle.request_csv.specs.Requests.{IsTextAt, IsUuidAt, IsNumberAt, IsHexAt, AreEmpty}
use Rattle.field_lists.specs.declared.entries.Listed.{Listed}
use Rattle.field_lists.specs.declared.entries.Listed.TheVariants.{Exported, System, Framed, Item, Link, Bad, End}

-- the names of the columns, in their order
abbrev pub header : List (List ℕ)
header = codes "kind" ∷ codes "number" ∷ codes "other" ∷ codes "identity" ∷ codes "zoom" ∷ codes "column"
    ∷ codes "row" ∷ codes "x" ∷ codes "y" ∷ codes "code" ∷ codes "text" ∷ codes "data" ∷ []

-- a UUID, or nothing
abbrev pub IsOptionalUuidAt : List (List ℕ) → ℕ → Option (List ℕ) → Type 0
IsOptionalUuidAt fields column None = IsTextAt fields column []
IsOptionalUuidAt fields column (Some id) = IsUuidAt fields column id

-- a number, or nothing
abbrev pub IsOptionalNumberAt : List (List ℕ) → ℕ → Option ℤ → Type 0
IsOptionalNumberAt fields column None = IsTextAt fields column []
IsOptionalNumberAt fields column (Some number) = IsNumberAt fields column number

-- the eleven numbers of a frame
abbrev pub IsFrameAt : List (List ℕ) → ℕ → Frame → Type 0
IsFrameAt fields column frame = IsInRange frame × IsTextAt fields column (frame_text frame)

-- the fields of an item beside its kind and its number, and that those which it does not use are empty. The place of
-- a tile is in its content, and it needs no identity
abbrev pub HasContent : List (List ℕ) → Option (List ℕ) → Content → Type 0
HasContent fields identity (Tile zoom column row bytes) = (identity ≡ None) × IsNumberAt fields 4 zoom
    × IsNumberAt fields 5 column × IsNumberAt fields 6 row × IsHexAt fields 11 bytes
    × AreEmpty fields (2 ∷ 3 ∷ 7 ∷ 8 ∷ 9 ∷ 10 ∷ [])
HasContent fields identity (Media content_type bytes) = IsOptionalUuidAt fields 3 identity
    × IsTextAt fields 10 content_type × IsHexAt fields 11 bytes
    × AreEmpty fields (2 ∷ 4 ∷ 5 ∷ 6 ∷ 7 ∷ 8 ∷ 9 ∷ [])
HasContent fields identity (Row x y code label) = IsOptionalUuidAt fields 3 identity × IsNumberAt fields 7 x
    × IsNumberAt fields 8 y × IsNumberAt fields 9 code × IsTextAt fields 10 label
    × AreEmpty fields (2 ∷ 4 ∷ 5 ∷ 6 ∷ 11 ∷ [])

-- the word of an entry
abbrev pub entry_word : Listed → List ℕ
entry_word (Exported export) = codes "package"
entry_word (System number) = codes "system"
entry_word (Framed frame) = codes "frame"
entry_word (Item item) = kind_word (kind_of item.content)
entry_word (Link link) = mapping_word link.mapping
entry_word (Bad bad) = codes "bad"
entry_word (End count) = codes "end"

-- the fields of an entry beside its word, and that those which it does not use are empty
abbrev pub HasEntry : List (List ℕ) → Listed → Type 0
HasEntry fields (Exported export) = IsNumberAt fields 1 export.ticket × IsUuidAt fields 3 export.«package»
    × AreEmpty fields (2 ∷ 4 ∷ 5 ∷ 6 ∷ 7 ∷ 8 ∷ 9 ∷ 10 ∷ 11 ∷ [])
HasEntry fields (System number) = IsNumberAt fields 1 number
    × AreEmpty fields (2 ∷ 3 ∷ 4 ∷ 5 ∷ 6 ∷ 7 ∷ 8 ∷ 9 ∷ 10 ∷ 11 ∷ [])
HasEntry fields (Framed frame) = IsFrameAt fields 10 frame × AreEmpty fields
    (1 ∷ 2 ∷ 3 ∷ 4 ∷ 5 ∷ 6 ∷ 7 ∷ 8 ∷ 9 ∷ 11 ∷ [])
HasEntry fields (Item item) = IsNumberAt fields 1 item.number × HasContent fields item.identity item.content
HasEntry fields (Link link) = IsNumberAt fields 1 link.base × IsNumberAt fields 2 link.other
    × AreEmpty fields (3 ∷ 4 ∷ 5 ∷ 6 ∷ 7 ∷ 8 ∷ 9 ∷ 10 ∷ 11 ∷ [])
HasEntry fields (Bad bad) = IsOptionalNumberAt fields 1 bad.number × IsTextAt fields 10 bad.text
    × AreEmpty fields (2 ∷ 3 ∷ 4 ∷ 5 ∷ 6 ∷ 7 ∷ 8 ∷ 9 ∷ 11 ∷ [])
HasEntry fields (End count) = IsNumberAt fields 1 count × AreEmpty fields
    (2 ∷ 3 ∷ 4 ∷ 5 ∷ 6 ∷ 7 ∷ 8 ∷ 9 ∷ 10 ∷ 11 ∷ [])

-- a record that is this entry
abbrev pub IsListed : List (List ℕ) → Listed → Type 0
IsListed fields entry = IsTextAt fields 0 (entry_word entry) × HasEntry fields entry
