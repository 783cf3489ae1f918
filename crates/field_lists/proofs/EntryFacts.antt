-- A record is no entry where it is none with the word that it has.
use Rattle.std.specs.Prelude.{◌≡◌, ℕ, ℤ, List, Option, codes}
use Rattle.sheet_types.proofs.Basics.{some_once}
use Rattle.sheet_types.specs.declared.command.Content.{Content}
use Rattle.sheet_types.specs.declared.command.Content.TheVariants.{Tile, Media, Row}
use Rattle.sheet_types.specs.declared.command.Mapping.{Mapping}
use Rattle.sheet_types.specs.declared.command.Mapping.TheVariants.{TilesMedia, RowsMedia, RowsTiles}
use Rattle.sheet_types.specs.declared.frame.Frame.{Frame}
use Rattle.request_csv.specs.Requests.{IsTextAt}
use Rattle.field_changes.specs.declared.held.BadRecord.{BadRecord}
use Rattle.field_changes.specs.declared.held.Export.{Export}
use Rattle.field_lists.specs.Listed.{IsListed}
use Rattle.field_lists.specs.declared.entries.Listed.{Listed}
use Rattle.field_lists.specs.declared.entries.Listed.TheVariants.{Exported, System, Framed, Item, Link, Bad, End}

abbrev pub NoExport : List (List ℕ) → Type 0
NoExport fields = (export : Export) → ¬ IsListed fields (Exported export)

abbrev pub NoSystem : List (List ℕ) → Type 0
NoSystem fields = (number : ℤ) → ¬ IsListed fields (System number)

abbrev pub NoFrame : List (List ℕ) → Type 0
NoFrame fields = (frame : Frame) → ¬ IsListed fields (Framed frame)

abbrev pub NoTile : List (List ℕ) → Type 0
NoTile fields = (number zoom column line : ℤ) (id : Option (List ℕ)) (bytes : List ℕ)
    → ¬ IsListed fields (Item (record { number = number; identity = id; content = Tile zoom column line bytes }))

abbrev pub NoMedium : List (List ℕ) → Type 0
NoMedium fields = (number : ℤ) (id : Option (List ℕ)) (content_type bytes : List ℕ)
    → ¬ IsListed fields (Item (record { number = number; identity = id; content = Media content_type bytes }))

abbrev pub NoRow : List (List ℕ) → Type 0
NoRow fields = (number x y code : ℤ) (id : Option (List ℕ)) (label : List ℕ)
    → ¬ IsListed fields (Item (record { number = number; identity = id; content = Row x y code label }))

abbrev pub NoLink : List (List ℕ) → Mapping → Type 0
NoLink fields mapping = (base other : ℤ) → ¬ IsListed fields
    (Link (record { mapping = mapping; base = base; other = other }))

abbrev pub NoBad : List (List ℕ) → Type 0
NoBad fields = (bad : BadRecord) → ¬ IsListed fields (Bad bad)

abbrev pub NoEnd : List (List ℕ) → Type 0
NoEnd fields = (count : ℤ) → ¬ IsListed fields (End count)

-- what a record with this word is
pub no_entry : (fields : List (List ℕ)) (word : List ℕ) → IsTextAt fields 0 word
    → (word ≡ codes "package" → NoExport fields)
    → (word ≡ codes "system" → NoSystem fields)
    → (word ≡ codes "frame" → NoFrame fields)
    → (word ≡ codes "tile" → NoTile fields)
    → (word ≡ codes "media" → NoMedium fields)
    → (word ≡ codes "row" → NoRow fields)
    → (word ≡ codes "tiles_media" → NoLink fields TilesMedia)
    → (word ≡ codes "rows_media" → NoLink fields RowsMedia)
    → (word ≡ codes "rows_tiles" → NoLink fields RowsTiles)
    → (word ≡ codes "bad" → NoBad fields)
    → (word ≡ codes "end" → NoEnd fields)
    → (entry : Listed) → ¬ IsListed fields entry
no_entry fields word there export system frame tile medium row tiles_media rows_media rows_tiles bad end (Exported e)
    is = export (some_once _ _ _ there is.0) e is
no_entry fields word there export system frame tile medium row tiles_media rows_media rows_tiles bad end (System n)
    is = system (some_once _ _ _ there is.0) n is
no_entry fields word there export system frame tile medium row tiles_media rows_media rows_tiles bad end (Framed r)
    is = frame (some_once _ _ _ there is.0) r is
no_entry fields word there export system frame tile medium row tiles_media rows_media rows_tiles bad end (Item i) is =
    of_item i.number i.identity i.content is
  where
    of_item : (number : ℤ) (id : Option (List ℕ)) (content : Content)
        → ¬ IsListed fields (Item (record { number = number; identity = id; content = content }))
    of_item number id (Tile z c r b) is = tile (some_once _ _ _ there is.0) number z c r id b is
    of_item number id (Media t b) is = medium (some_once _ _ _ there is.0) number id t b is
    of_item number id (Row x y k l) is = row (some_once _ _ _ there is.0) number x y k id l is
no_entry fields word there export system frame tile medium row tiles_media rows_media rows_tiles bad end (Link l) is =
    of_link l.mapping l.base l.other is
  where
    of_link : (mapping : Mapping) (base other : ℤ) → ¬ IsListed fields
        (Link (record { mapping = mapping; base = base; other = other }))
    of_link TilesMedia base other is = tiles_media (some_once _ _ _ there is.0) base other is
    of_link RowsMedia base other is = rows_media (some_once _ _ _ there is.0) base other is
    of_link RowsTiles base other is = rows_tiles (some_once _ _ _ there is.0) base other is
no_entry fields word there export system frame tile medium row tiles_media rows_media rows_tiles bad end (Bad b) is =
    bad (some_once _ _ _ there is.0) b is
no_entry fields word there export system frame tile medium row tiles_media rows_media rows_tiles bad end (End n) is =
    end (some_once _ _ _ there is.0) n is
