-- Rows of items, and of links, part after part.
use Rattle.std.specs.Prelude.{◌≡◌, ◌<◌, ◌≤◌, ◌+◌, ◌++◌, ℕ, List, [], ◌∷◌, length}
use Rattle.std.specs.Prelude.{take, drop, flat_map, refl}
use Rattle.std.proofs.Common.{ap, arith, sym, ◌∙◌, get_or, append_assoc, append-nil, take-append-drop}
use Rattle.std.proofs.lemmas.Grind.{flat_map-append}
use Rattle.sheet_types.specs.declared.command.Content.{Content}
use Rattle.sheet_types.specs.declared.command.Content.TheVariants.{Tile, Media, Row}
use Rattle.sheet_types.specs.declared.command.Item.{Item}
use Rattle.sheet_types.specs.declared.command.Relation.{Relation}
use Rattle.sheet_types.specs.declared.frame.Frame.{Frame}
use Rattle.view_export.specs.Exports.{item_rows, items_behind, link_row}
use Rattle.view_export.specs.Numbers.{counted, next_number, no_counts}
use Rattle.view_export.specs.declared.numbers.Counts.{Counts}
use Rattle.sheet_ledger.proofs.Walking.{one_more}

-- what is counted behind some items
abbrev pub counts_behind : Counts → List Item → Counts
counts_behind c [] = c
counts_behind c (item ∷ items) = counts_behind (counted c item.content) items

counts_more : (c : Counts) (items : List Item) (item : Item)
    → counts_behind c (items ++ item ∷ []) ≡ counted (counts_behind c items) item.content
counts_more c [] item = refl
counts_more c (first ∷ items) item = counts_more (counted c first.content) items item

-- the rows of two parts
items_parts : (f : Frame) (c : Counts) (front back : List Item)
    → items_behind f c (front ++ back) ≡ items_behind f c front ++ items_behind f (counts_behind c front) back
items_parts f c [] back = refl
items_parts f c (first ∷ front) back =
    ap (λ rows. item_rows f (next_number c first.content) first ++ rows)
    (items_parts f (counted c first.content) front back)
    ∙ sym (append_assoc (item_rows f (next_number c first.content) first)
    (items_behind f (counted c first.content) front) (items_behind f
    (counts_behind (counted c first.content) front) back))

-- ---- items so far

pub counted_more : (items : List Item) (i : ℕ) (item : Item) (c : Counts) → i < length items
    → item ≡ get_or items i item → c ≡ counts_behind no_counts (take i items)
    → counted c item.content ≡ counts_behind no_counts (take (i + 1) items)
counted_more items i item c lt is so_far =
    ap (λ k. counted k item.content) so_far ∙ sym (counts_more no_counts (take i items) item)
    ∙ ap (counts_behind no_counts) (sym (one_more items i item lt is))

pub items_more : (f : Frame) (items : List Item) (i : ℕ) (item : Item) (c : Counts) → i < length items
    → item ≡ get_or items i item → c ≡ counts_behind no_counts (take i items)
    → items_behind f no_counts (take (i + 1) items) ≡ items_behind f no_counts (take i items)
    ++ item_rows f (next_number c item.content) item
items_more f items i item c lt is so_far =
    ap (items_behind f no_counts) (one_more items i item lt is)
    ∙ items_parts f no_counts (take i items) (item ∷ [])
    ∙ ap (λ rows. items_behind f no_counts (take i items) ++ rows)
    (append-nil (item_rows f (next_number (counts_behind no_counts (take i items)) item.content) item))
    ∙ ap (λ k. items_behind f no_counts (take i items) ++ item_rows f (next_number k item.content) item) (sym so_far)

-- none of the counts is past the number of items
pub counted_within : (c : Counts) (content : Content) (n : ℕ) → c.tiles ≤ n → c.media ≤ n → c.rows ≤ n
    → ((counted c content).tiles ≤ n + 1) × ((counted c content).media ≤ n + 1)
    × ((counted c content).rows ≤ n + 1)
counted_within c (Tile zoom column row bytes) n tiles media rows =
    (omega (arith, tiles), omega (arith, media), omega (arith, rows))
counted_within c (Media content_type bytes) n tiles media rows =
    (omega (arith, tiles), omega (arith, media), omega (arith, rows))
counted_within c (Row x y code label) n tiles media rows = (
  omega (arith, tiles),
  omega (arith, media),
  omega
      (arith, rows),
)

-- the rows of those to come
abbrev pub items_left : Frame → List Item → ℕ → List ℕ
items_left f items i = items_behind f (counts_behind no_counts (take i items)) (drop i items)

pub items_split : (f : Frame) (items : List Item) (i : ℕ) → items_behind f no_counts items
    ≡ items_behind f no_counts (take i items) ++ items_left f items i
items_split f items i =
    ap (items_behind f no_counts) (sym (take-append-drop i items))
    ∙ items_parts f no_counts (take i items) (drop i items)

-- ---- links so far

pub links_more : (items : List Item) (links : List Relation) (i : ℕ) (link : Relation) → i < length links
    → link ≡ get_or links i link
    → flat_map (link_row items) (take (i + 1) links) ≡ flat_map (link_row items) (take i links)
    ++ link_row items link
links_more items links i link lt is =
    ap (flat_map (link_row items)) (one_more links i link lt is)
    ∙ flat_map-append (link_row items) (take i links) (link ∷ [])
    ∙ ap (λ rows. flat_map (link_row items) (take i links) ++ rows) (append-nil (link_row items link))

pub links_split : (items : List Item) (links : List Relation) (i : ℕ)
    → flat_map (link_row items) links ≡ flat_map (link_row items) (take i links)
    ++ flat_map (link_row items) (drop i links)
links_split items links i =
    ap (flat_map (link_row items)) (sym (take-append-drop i links))
    ∙ flat_map-append (link_row items) (take i links) (drop i links)
