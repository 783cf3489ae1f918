-- The records of a file that a package cannot hold, a line each. Profile.
use Rattle.std.specs.Prelude.{◌≡◌, ℕ, ◌-◌, ◌==◌, Bool, true, false, not, ◌&&◌, ◌||◌, List, []}
use Rattle.std.specs.Prelude.{◌∷◌, ◌++◌, filter}
use Rattle.std.specs.Prelude.{flat_map, Option, Some, None, ℤ, pos, int_lt, unsigned_abs, unwrap_or, is_none}
use Rattle.std.specs.Prelude.{if◌then◌else◌, bytes_eq, codes, slice_get}
use Rattle.std.specs.List.{list_any, before_first, after_first}
use Rattle.std.specs.Option.{option_map_or}
use Rattle.std.specs.Fmt.{signed_decimal}
use Rattle.std.specs.Ordering.{nat_cmp}
use Rattle.std.specs.Cmp.Lexicographic.{slice_cmp}
use Rattle.std.specs.BTreeMap.{BTreeMap, get}
use Rattle.std.specs.BTreeSet.{BTreeSet, contains}
use Rattle.sheet_types.specs.Cut.{identities}
use Rattle.sheet_types.specs.Matrix.{first_row}
use Rattle.sheet_types.specs.Ordered.{has}
use Rattle.sheet_types.specs.Texts.{kind_of, kind_word}
use Rattle.sheet_types.specs.World.{kind_is}
use Rattle.sheet_types.specs.declared.command.Content.{Content}
use Rattle.sheet_types.specs.declared.command.Content.TheVariants.{Tile, Media, Row}
use Rattle.sheet_types.specs.declared.command.Item.{Item}
use Rattle.sheet_types.specs.declared.frame.Frame.{Frame}
use Rattle.sheet_types.specs.declared.receipt.MovedKind.{MovedKind}
use Rattle.sheet_types.specs.declared.receipt.MovedKind.TheVariants.{MediaItem, RowItem}
use Rattle.field_changes.specs.Keys.{sign}
use Rattle.field_changes.specs.declared.held.BadRecord.{BadRecord}
use Rattle.field_changes.specs.declared.held.Export.{Export}
use Rattle.field_changes.specs.declared.held.Held.{Held}
use Rattle.field_changes.specs.declared.held.HeldItem.{HeldItem}
use Rattle.field_faults.specs.Heads.{is_same}
use Rattle.field_faults.specs.Reasons.{reason_of}
use Rattle.field_faults.specs.declared.lines.Lying.{Lying}
use Rattle.field_faults.specs.declared.lines.Numbered.{Numbered}
use Rattle.field_faults.specs.declared.reasons.Reason.{Reason}
use Rattle.field_faults.specs.declared.reasons.Reason.TheVariants.{BadData, BadPlace, BadText, BadCode, BadPoint}
use Rattle.field_faults.specs.declared.reasons.Reason.TheVariants.{Renumbered, Twice, Taken}

-- ---- a tile

-- a content is a tile of this place
abbrev pub is_at : ℤ → ℤ → ℤ → Content → Bool
is_at zoom column row (Tile z c r bytes) = is_same z zoom && is_same c column && is_same r row
is_at zoom column row content = false

-- a place as a key: each number is its sign and how far it is from 0
abbrev pub place_key : ℤ → ℤ → ℤ → List ℕ
place_key zoom column row = sign zoom ∷ unsigned_abs zoom ∷ sign column ∷ unsigned_abs column
    ∷ sign row ∷ unsigned_abs row ∷ []

-- a tile that could be held lies at this place
abbrev pub is_good_at : Frame → ℤ → ℤ → ℤ → HeldItem → Bool
is_good_at f zoom column row h = is_at zoom column row h.content && is_none (reason_of f h.content)

-- a set has the places of such tiles among these, and no others
abbrev pub HasPlaces : Frame → List HeldItem → BTreeSet (List ℕ) → Type 0
HasPlaces f before places = (zoom column row : ℤ)
    → contains (slice_cmp nat_cmp) places (place_key zoom column row)
    ≡ list_any (is_good_at f zoom column row) before

abbrev pub bytes_of : Content → List ℕ
bytes_of (Tile zoom column row bytes) = bytes
bytes_of (Media content_type bytes) = bytes
bytes_of (Row x y code label) = []

-- another tile lies at this place
abbrev pub is_other_at : ℤ → ℤ → ℤ → List ℕ → Item → Bool
is_other_at zoom column row bytes i = is_at zoom column row i.content && not (bytes_eq (bytes_of i.content) bytes)

-- another tile lies at a place, of what a map has there
abbrev pub has_other : Option Lying → List ℕ → Bool
has_other None bytes = false
has_other (Some lying) bytes = lying.differ || not (bytes_eq lying.bytes.now bytes)

-- a map tells so of each place, of the tiles among these
abbrev pub HasTiles : List Item → BTreeMap (List ℕ) Lying → Type 0
HasTiles items tiles = (zoom column row : ℤ) (bytes : List ℕ)
    → has_other (get (slice_cmp nat_cmp) tiles (place_key zoom column row)) bytes
    ≡ list_any (is_other_at zoom column row bytes) items

-- ---- a medium or a row

-- the identities of the items of a kind, in the order in which an export numbers them from 1
abbrev pub ids_of : MovedKind → List Item → List (List ℕ)
ids_of kind items = identities (filter (λ i. kind_is kind (kind_of i.content)) items)

abbrev pub at_number : List (List ℕ) → ℤ → Option (List ℕ)
at_number ids number = if int_lt number (pos 1) then None else slice_get ids (unsigned_abs number - 1)

abbrev pub exported_as : MovedKind → List Item → ℤ → Option (List ℕ)
exported_as kind items number = at_number (ids_of kind items) number

-- it names an item, and stands under the number of another
abbrev pub is_renumbered : List Item → HeldItem → Bool
is_renumbered items h = option_map_or (λ id. option_map_or (λ other. not (bytes_eq other id) && has (λ i. i.identity)
    id items) (exported_as (kind_of h.content) items h.number) false) h.identity false

-- a set has the identities of these items, and no others
abbrev pub IsKnownIn : List Item → BTreeSet (List ℕ) → Type 0
IsKnownIn items known = (id : List ℕ) → contains (slice_cmp nat_cmp) known id ≡ has (λ i. i.identity) id items

-- those of media and rows, all identities, and tiles by their places where nothing is to be taken away
pub record AreNumbered (items : List Item) (more : Bool) (n : Numbered) : Type 0 where
  pub media : n.media.items ≡ ids_of MediaItem items
  pub rows : n.rows.items ≡ ids_of RowItem items
  pub known : IsKnownIn items n.known
  pub tiles : more ≡ true → HasTiles items n.tiles

-- ---- any item

abbrev pub was_exported : Option Export → Bool
was_exported None = false
was_exported (Some export) = true

-- the first reason beside those that lie in the item alone: of an item, and those before it in the file
abbrev pub reason_among : Frame → List Item → Bool → Bool → List HeldItem → HeldItem → Content
    → Option Reason
reason_among f items more exported before h (Tile zoom column row bytes) = first_row
    ((list_any (is_good_at f zoom column row) before, Twice)
    ∷ (more && list_any (is_other_at zoom column row bytes) items, Taken)
    ∷ [])
reason_among f items more exported before h (Media content_type bytes) =
    first_row ((exported && is_renumbered items h, Renumbered) ∷ [])
reason_among f items more exported before h (Row x y code label) =
    first_row ((exported && is_renumbered items h, Renumbered) ∷ [])

abbrev pub reason_or : Option Reason → Option Reason → Option Reason
reason_or (Some reason) other = Some reason
reason_or None other = other

abbrev pub reason_in : Frame → List Item → Bool → Bool → List HeldItem → HeldItem → Option Reason
reason_in f items more exported before h = reason_or (reason_of f h.content)
    (reason_among f items more exported before h h.content)

-- ---- lines

abbrev pub reason_word : Reason → List ℕ
reason_word BadData = codes "data"
reason_word BadPlace = codes "place"
reason_word BadText = codes "text"
reason_word BadCode = codes "code"
reason_word BadPoint = codes "point"
reason_word Renumbered = codes "number"
reason_word Twice = codes "twice"
reason_word Taken = codes "taken"

-- a kind, a number and a word, with single spaces between
abbrev pub record_line : List ℕ → ℤ → List ℕ → List ℕ
record_line kind number word = kind ++ codes " " ++ signed_decimal number ++ codes " " ++ word ++ codes "\n"

-- a record that could not be listed: what its text has before the first space, and after it
abbrev pub bad_line : BadRecord → List ℕ
bad_line bad = record_line (before_first (λ c. c == 32) bad.text) (unwrap_or bad.number (pos 0))
    (after_first (λ c. c == 32) bad.text)

abbrev pub line_for : HeldItem → Option Reason → List ℕ
line_for h None = []
line_for h (Some reason) = record_line (kind_word (kind_of h.content)) h.number (reason_word reason)

abbrev pub item_lines : Frame → List Item → Bool → Bool → List HeldItem → List HeldItem → List ℕ
item_lines f items more exported before [] = []
item_lines f items more exported before (h ∷ hs) = line_for h (reason_in f items more exported before h)
    ++ item_lines f items more exported (before ++ h ∷ []) hs

-- of a package that holds these items
abbrev pub fault_lines : Frame → List Item → Bool → Held → List ℕ
fault_lines f items more held = flat_map bad_line held.bad.items
    ++ item_lines f items more (was_exported held.export) [] held.items.items
