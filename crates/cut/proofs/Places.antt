-- The tiles of a zoom, the zooms in turn, and the rows: what lies inside.
use Rattle.std.specs.Prelude.{◌≡◌, ℕ, ℤ, pos, ◌+ℤ◌, ◌<ℤ◌, int_lt, int_le, Bool, true, false}
use Rattle.std.specs.Prelude.{◌&&◌, ◌||◌, List, []}
use Rattle.std.specs.Prelude.{◌∷◌, ◌++◌, filter, refl, bytes_eq}
use Rattle.std.proofs.Common.{sym, ap, ◌∙◌, arith}
use Rattle.std.proofs.lemmas.Bool.{and_parts}
use Rattle.std.proofs.lemmas.Int.{ints, by_lt_z}
use Rattle.std.specs.Cmp.{signed_Decides}
use Rattle.std.specs.List.{list_any, AllByRecursion}
use Rattle.std.specs.Ordering.{int_eq}
use Rattle.sheet_types.specs.Ordered.{is_among}
use Rattle.sheet_types.specs.Cut.{identities, start, lies_inside}
use Rattle.sheet_types.specs.Matrix.{has_level, has_place, width_at, height_at, level_of, tile_inside, block_ground}
use Rattle.sheet_types.specs.World.{Package}
use Rattle.sheet_types.specs.declared.command.Content.{Content}
use Rattle.sheet_types.specs.declared.command.Content.TheVariants.{Tile, Media, Row}
use Rattle.sheet_types.specs.declared.frame.Frame.{Frame}
use Rattle.sheet_types.specs.declared.frame.Rect.{Rect}
use Rattle.sheet_types.proofs.Basics.{or-true, or-false}
use Rattle.sheet_types.proofs.Every.{All-weaker}
use Rattle.matrix_rules.proofs.Frames.{three}
use Rattle.matrix_rules.specs.Places.{is_inside, in_span}
use Rattle.matrix_rules.specs.declared.spans.Span.{Span}
use Rattle.identity_register.specs.Reach.{stands_in, tiles_in, rows_in, lies_on}
use Rattle.cut.specs.Gathering.{AreSame, is_tile_at, tiles_at, is_tile_below, tiles_below}
use Rattle.cut.specs.Taken.{HasPlace, IsInOrder}
use Rattle.cut.proofs.Members.{among-append}
use Rattle.cut.proofs.Testing.{both_ways, filter_alike, any_same, any_or, any_none, among_those}

-- a span tells the tiles of its zoom
pub tiles_by_span : (f : Frame) (r : Rect) (z : ℤ) (s : Span)
    → ((column row : ℤ) → is_inside f r z column row ≡ in_span s column row) → (p : Package)
    → tiles_in p z s ≡ tiles_at f r p z
tiles_by_span f r z s places p = ap identities (filter_alike (λ i. stands_in z s i.content)
    (λ i. is_tile_at f r z i.content) p.items (λ i. one i.content))
  where
    one : (x : Content) → stands_in z s x ≡ is_tile_at f r z x
    one (Tile zoom column row bytes) = ap (λ b. int_eq zoom z && b) (sym (places column row))
    one (Media content_type bytes) = refl
    one (Row x y code label) = refl

nothing : {X : Type 0} (xs : List X) → filter (λ x. false) xs ≡ []
nothing [] = refl
nothing (x ∷ xs) = nothing xs

-- without a span there are none
pub tiles_none : (f : Frame) (r : Rect) (z : ℤ) → ((column row : ℤ) → is_inside f r z column row ≡ false)
    → (p : Package) → [] ≡ tiles_at f r p z
tiles_none f r z places p = ap identities (sym (filter_alike (λ i. is_tile_at f r z i.content) (λ i. false) p.items
    (λ i. one i.content) ∙ nothing p.items))
  where
    never : (a : Bool) → (a && false) ≡ false
    never true = refl
    never false = refl

    one : (x : Content) → is_tile_at f r z x ≡ false
    one (Tile zoom column row bytes) = ap (λ b. int_eq zoom z && b) (places column row) ∙ never (int_eq zoom z)
    one (Media content_type bytes) = refl
    one (Row x y code label) = refl

-- ---- the zooms in turn

int_lt_so : (a b : ℤ) → a <ℤ b → int_lt a b ≡ true
int_lt_so a b h = let so : true ≡ int_lt a b = omega (arith, ints, h) in sym so

-- a zoom lies below the next where it lies below this one or is it
below_next : (a z : ℤ) → int_lt a (z +ℤ pos 1) ≡ (int_lt a z || int_eq a z)
below_next a z = both_ways (int_lt a (z +ℤ pos 1)) (int_lt a z || int_eq a z) to fro
  where
    to : int_lt a (z +ℤ pos 1) ≡ true → (int_lt a z || int_eq a z) ≡ true
    to h = by_lt_z a z (λ less. ap (λ b. b || int_eq a z) (int_lt_so a z less))
        (λ most. let same : a ≡ z = omega (arith, ints, h, most) in ap (λ b. int_lt a z || b)
        ((signed_Decides a z).1 same) ∙ or-true (int_lt a z))

    fro : (int_lt a z || int_eq a z) ≡ true → int_lt a (z +ℤ pos 1) ≡ true
    fro h = by_lt_z a z (λ less. int_lt_so a (z +ℤ pos 1) (omega (arith, ints, less)))
        (λ most. let not_less : int_lt a z ≡ false = let so : false ≡ int_lt a z =
        omega (arith, ints, most) in sym so in
        let same : a ≡ z = (signed_Decides a z).0 (sym (ap (λ b. b || int_eq a z) not_less) ∙ h) in int_lt_so a
        (z +ℤ pos 1) (omega (arith, ints, same)))

spread : (a b c : Bool) → ((a || b) && c) ≡ ((a && c) || (b && c))
spread true b true = refl
spread true true false = refl
spread true false false = refl
spread false b c = refl

-- a tile of a zoom below the next is of a zoom below this, or of this
next_zoom : (f : Frame) (r : Rect) (z : ℤ) (x : Content) → is_tile_below f r (z +ℤ pos 1) x
    ≡ (is_tile_below f r z x || is_tile_at f r z x)
next_zoom f r z (Tile zoom column row bytes) =
    ap (λ b. b && is_inside f r zoom column row) (below_next zoom z)
    ∙ spread (int_lt zoom z) (int_eq zoom z) (is_inside f r zoom column row)
    ∙ ap (λ b. (int_lt zoom z && is_inside f r zoom column row) || b)
    (elim (int_eq zoom z) as (λ v. int_eq zoom z ≡ v → (v && is_inside f r zoom column row)
    ≡ (v && is_inside f r z column row)) [
      | true ↦ λ e. ap (λ y. is_inside f r y column row) ((signed_Decides zoom z).0 e)
      | false ↦ λ _. refl
    ] refl)
next_zoom f r z (Media content_type bytes) = refl
next_zoom f r z (Row x y code label) = refl

-- items that one test or the other takes
pub among_either : (p : Package) (s t : Content → Bool) (xs ys : List (List ℕ))
    → AreSame xs (identities (filter (λ i. s i.content) p.items))
    → AreSame ys (identities (filter (λ i. t i.content) p.items))
    → (id : List ℕ) → is_among (xs ++ ys) id ≡ list_any (λ i. (s i.content || t i.content) && bytes_eq
    i.identity id)
    p.items
among_either p s t xs ys same other id =
    among-append xs ys id ∙ ap (λ b. b || is_among ys id) (same id
    ∙ among_those (λ i. i.identity) (λ i. s i.content) p.items id)
    ∙ ap (λ b. list_any (λ i. s i.content && bytes_eq i.identity id) p.items || b)
    (other id ∙ among_those (λ i. i.identity) (λ i. t i.content) p.items id)
    ∙ sym (any_or (λ i. s i.content && bytes_eq i.identity id) (λ i. t i.content && bytes_eq i.identity id) p.items)
    ∙ any_same (λ i. (s i.content && bytes_eq i.identity id) || (t i.content && bytes_eq i.identity id))
    (λ i. (s i.content || t i.content) && bytes_eq i.identity id) p.items
    (λ i. sym (spread (s i.content) (t i.content) (bytes_eq i.identity id)))

-- one zoom more
pub tiles_more : (f : Frame) (r : Rect) (p : Package) (z : ℤ) (found : List (List ℕ))
    → AreSame found (tiles_below f r p z) → AreSame (found ++ tiles_at f r p z) (tiles_below f r p (z +ℤ pos 1))
tiles_more f r p z found same id =
    among_either p (is_tile_below f r z) (is_tile_at f r z) found (tiles_at f r p z) same (λ k. refl) id
    ∙ any_same (λ i. (is_tile_below f r z i.content || is_tile_at f r z i.content) && bytes_eq i.identity id)
    (λ i. is_tile_below f r (z +ℤ pos 1) i.content && bytes_eq i.identity id) p.items
    (λ i. ap (λ b. b && bytes_eq i.identity id) (sym (next_zoom f r z i.content)))
    ∙ sym (among_those (λ i. i.identity) (λ i. is_tile_below f r (z +ℤ pos 1) i.content) p.items id)

-- none is of a zoom below the first
never : (a : Bool) → (a && false) ≡ false
never true = refl
never false = refl

none_below : (f : Frame) (r : Rect) (x : Content) → is_tile_below f r f.first_zoom x ≡ false
none_below f r (Tile zoom column row bytes) = by_lt_z zoom f.first_zoom
    (λ less. let low : int_le f.first_zoom zoom ≡ false = let so : false ≡ int_le f.first_zoom zoom =
    omega (arith, ints, less) in sym so in
    ap (λ b. int_lt zoom f.first_zoom && b) (rw low refl) ∙ never (int_lt zoom f.first_zoom))
    (λ most. let not_less : int_lt zoom f.first_zoom ≡ false = let so : false ≡ int_lt zoom f.first_zoom =
    omega (arith, ints, most) in sym so in
    ap (λ b. b && is_inside f r zoom column row) not_less)
none_below f r (Media content_type bytes) = refl
none_below f r (Row x y code label) = refl

pub tiles_first : (f : Frame) (r : Rect) (p : Package) → AreSame [] (tiles_below f r p f.first_zoom)
tiles_first f r p id = sym (among_those (λ i. i.identity) (λ i. is_tile_below f r f.first_zoom i.content) p.items id
    ∙ any_same (λ i. is_tile_below f r f.first_zoom i.content && bytes_eq i.identity id) (λ i. false) p.items
    (λ i. ap (λ b. b && bytes_eq i.identity id) (none_below f r i.content)) ∙ any_none p.items)

-- ---- tiles and rows

-- a place is of a zoom below the end
place_below : (f : Frame) (zoom column row : ℤ) → has_place f zoom column row ≡ true
    → int_lt zoom (f.first_zoom +ℤ f.levels) ≡ true
place_below f zoom column row h =
    let rows = three (has_level f zoom && int_le (pos 0) column && int_lt column (width_at f (level_of f zoom)))
    (int_le (pos 0) row) (int_lt row (height_at f (level_of f zoom))) h in
    let columns = three (has_level f zoom) (int_le (pos 0) column) (int_lt column (width_at f (level_of f zoom)))
    rows.0 in
    (and_parts (int_le f.first_zoom zoom) (int_lt zoom (f.first_zoom +ℤ f.levels)) columns.0).1

-- what lies inside, by its kind
inside_is : (f : Frame) (r : Rect) (x : Content) → HasPlace f x
    → (is_tile_below f r (f.first_zoom +ℤ f.levels) x || lies_on (block_ground f r) x) ≡ lies_inside f r x
inside_is f r (Tile zoom column row bytes) h =
    or-false (is_tile_below f r (f.first_zoom +ℤ f.levels) (Tile zoom column row bytes))
    ∙ ap (λ b. b && is_inside f r zoom column row) (place_below f zoom column row h)
    ∙ ap (λ b. b && tile_inside f r zoom column row) h
inside_is f r (Media content_type bytes) h = refl
inside_is f r (Row x y code label) h = refl

-- tests that agree on a list
pub any_alike : {X : Type 0} (p q : X → Bool) (xs : List X) → AllByRecursion (λ x. p x ≡ q x) xs
    → list_any p xs ≡ list_any q xs
any_alike p q [] h = refl
any_alike p q (x ∷ xs) h = ap (λ b. b || list_any p xs) h.0 ∙ ap (λ b. q x || b) (any_alike p q xs h.1)

-- the tiles of all zooms and the rows are the start
pub start_is : (f : Frame) (r : Rect) (p : Package) (tiles : List (List ℕ))
    → AreSame tiles (tiles_below f r p (f.first_zoom +ℤ f.levels)) → IsInOrder f p
    → AreSame (tiles ++ rows_in p (block_ground f r)) (identities (start f r p))
start_is f r p tiles same order id =
    among_either p (is_tile_below f r (f.first_zoom +ℤ f.levels)) (lies_on (block_ground f r)) tiles
    (rows_in p (block_ground f r)) same (λ k. refl) id
    ∙ any_alike (λ i. (is_tile_below f r (f.first_zoom +ℤ f.levels) i.content || lies_on (block_ground f r)
    i.content)
    && bytes_eq i.identity id) (λ i. lies_inside f r i.content && bytes_eq i.identity id) p.items
    (All-weaker (λ i. HasPlace f i.content) (λ i. ((is_tile_below f r (f.first_zoom +ℤ f.levels) i.content ||
    lies_on
    (block_ground f r) i.content) && bytes_eq i.identity id)
    ≡ (lies_inside f r i.content && bytes_eq i.identity id))
    (λ i h. ap (λ b. b && bytes_eq i.identity id) (inside_is f r i.content h)) p.items order.places)
    ∙ sym (among_those (λ i. i.identity) (λ i. lies_inside f r i.content) p.items id)
