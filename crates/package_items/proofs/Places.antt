-- Items of rows in range are fit, and their tiles stand in places of their own.
use Rattle.std.proofs.Common.{◌≡◌, ℕ, ℤ, pos, negsuc, List, [], ◌∷◌, map, true, false, refl, sym, ap}
use Rattle.std.proofs.Common.{subst, ◌∙◌}
use Rattle.std.proofs.Common.{arith, ◌≤ℤ◌}
use Rattle.std.specs.Prelude.{bytes_eq, unsigned_abs, filter, ◌==◌, ◌&&◌, not, int_le, int_lt}
use Rattle.std.specs.List.{AllByRecursion, IsDistinct, list_any, list_all}
use Rattle.std.specs.Ordering.{int_eq}
use Rattle.std.proofs.lemmas.Int.{ints}
use Rattle.std.proofs.lemmas.Bool.{true≢false, false≢true, false_from_ne_true, and_parts, and_from}
use Rattle.std.proofs.lemmas.List.Sorted.{IsPermutation-map}
use Rattle.std.proofs.lemmas.Map.Keys.{IsDistinct-IsPermutation}
use Rattle.std.proofs.lemmas.Slice.Eq.{bytes_eq-Decides}
use Rattle.matrix_rules.proofs.Frames.{good_frame}
use Rattle.sheet_types.specs.Matrix.{is_within, has_place, has_level, level_of, width_at, height_at, in_frame}
use Rattle.sheet_types.specs.Matrix.{is_good_frame}
use Rattle.sheet_types.specs.Ordered.{arranged}
use Rattle.sheet_types.specs.Refuse.{place_of, is_length_within, is_printable}
use Rattle.sheet_types.specs.Register.{IsFit}
use Rattle.sheet_types.specs.Texts.{kind_of}
use Rattle.sheet_types.specs.World.{World, Package, item_key, is_tile, kind_number}
use Rattle.sheet_types.specs.declared.command.Content.{Content}
use Rattle.sheet_types.specs.declared.command.Content.TheVariants.{Tile, Media, Row}
use Rattle.sheet_types.specs.declared.command.Item.{Item}
use Rattle.sheet_types.specs.declared.frame.Frame.{Frame}
use Rattle.sheet_types.proofs.Basics.{not_true, bytes_eq_swap}
use Rattle.sheet_types.proofs.Every.{All-weaker, All-both, All-filter, All-map}
use Rattle.sheet_types.proofs.Found.{filter_passes}
use Rattle.sheet_types.proofs.Order.{All-arranged}
use Rattle.sheet_types.proofs.Same.{In, All-In, In-all}
use Rattle.package_tables.specs.Package.{Tables}
use Rattle.package_tables.specs.declared.rows.TileRow.{TileRow}
use Rattle.package_tables.proofs.Reading.{arranged_permutation}
use Rattle.identity_register.specs.Numbering.{Numbered, IsNumbering, place_in_tables}
use Rattle.identity_register.proofs.Deleting.{distinct_filter}
use Rattle.package_items.specs.Ranges.{AreItemsInRange, is_tile_in_range, is_medium_in_range, is_row_in_range, is_local}
use Rattle.package_items.specs.Tied.{is_same_place}
use Rattle.package_items.proofs.Apart.{distinct_keys, distinct_of_map, one_by, int_flips}
use Rattle.package_items.proofs.Numbers.{HasContent, IsHere}

pub maps : {X Y Z : Type 0} (g : Y → Z) (f : X → Y) (xs : List X) → map g (map f xs) ≡ map (λ x. g (f x)) xs
maps g f [] = refl
maps g f (x ∷ xs) = ap (λ l. g (f x) ∷ l) (maps g f xs)

-- ---- numbers that are not below zero

pub same_size : (a b : ℤ) → int_le (pos 0) a ≡ true → int_le (pos 0) b ≡ true
    → unsigned_abs a ≡ unsigned_abs b → a ≡ b
same_size (pos a) (pos b) ha hb e = ap pos e
same_size (negsuc a) b ha hb e = absurd (false≢true ha)
same_size (pos a) (negsuc b) ha hb e = absurd (false≢true hb)

above : (a b : ℤ) → int_le (pos 0) a ≡ true → int_le a b ≡ true → int_le (pos 0) b ≡ true
above a b h g = grind (arith, ints)

not_below : (f : Frame) (z c r : ℤ) → is_good_frame f ≡ true → has_place f z c r ≡ true
    → (int_le (pos 0) z ≡ true)
    × (int_le (pos 0) c ≡ true) × (int_le (pos 0) r ≡ true)
not_below f z c r good h =
    let e4 : ((has_level f z && int_le (pos 0) c && int_lt c (width_at f (level_of f z)) && int_le (pos 0) r) ≡ true)
    × (int_lt r (height_at f (level_of f z)) ≡ true) = and_parts _ _ h in
    let e3 : ((has_level f z && int_le (pos 0) c && int_lt c (width_at f (level_of f z))) ≡ true)
    × (int_le (pos 0) r ≡ true) = and_parts _ _ e4.0 in
    let e2 : ((has_level f z && int_le (pos 0) c) ≡ true) × (int_lt c (width_at f (level_of f z)) ≡ true) =
    and_parts _ _ e3.0 in
    let e1 : (has_level f z ≡ true) × (int_le (pos 0) c ≡ true) = and_parts _ _ e2.0 in (
      above f.first_zoom z (first f.first_zoom (good_frame f good).first_zoom)
          (and_parts (int_le f.first_zoom z) _ e1.0).0,
      e1.1,
      e3.1,
    )
  where
    first : (n : ℤ) → pos 0 ≤ℤ n → int_le (pos 0) n ≡ true
    first n h = grind (arith, ints)

-- ---- what is in range

module _ (f : Frame) (t : Tables) (inside : AreItemsInRange f t) where
  tile_in : (x : TileRow) → In x t.tiles → (is_local x.id ≡ true)
      × (has_place f x.zoom_level x.tile_column x.tile_row ≡ true)
      × (is_length_within 1 1048576 x.tile_data ≡ true)
  tile_in x i =
      let all = All-In (λ r. is_tile_in_range f r ≡ true) x t.tiles inside.tiles i in
      let last = and_parts (is_local x.id && has_place f x.zoom_level x.tile_column x.tile_row)
      (is_length_within 1 1048576 x.tile_data) all in
      let front = and_parts (is_local x.id) (has_place f x.zoom_level x.tile_column x.tile_row) last.0 in
      (front.0, front.1, last.1)

  -- an item is such as an Add could have brought
  fit_content : (w : World) (p : Package) (number : ℤ) (identity : List ℕ) (c : Content) → w.frame ≡ f
      → HasContent t number c → IsFit w p (record { identity = identity; content = c })
  fit_content w p number identity (Tile zoom column row bytes) e here =
      let x = tile_in (record {
        id = number;
        zoom_level = zoom;
        tile_column = column;
        tile_row = row;
        tile_data = bytes;
      }) here in
      (refl, x.2, ap not (ap (λ g. has_place g zoom column row) e ∙ x.1), refl)
  fit_content w p number identity (Media content_type bytes) e here =
      let all = All-In (λ r. is_medium_in_range r ≡ true) (record
      { id = number; «data» = bytes; content_type = content_type }) t.media inside.media here in
      let text = and_parts (is_local number && is_length_within 1 1048576 bytes && is_length_within 1 100
      content_type) (list_all is_printable content_type) all in
      let long = and_parts (is_local number && is_length_within 1 1048576 bytes) (is_length_within 1 100 content_type)
      text.0 in
      let bytes_in = and_parts (is_local number) (is_length_within 1 1048576 bytes) long.0 in
      (ap not text.1, and_from _ _ bytes_in.1 long.1, refl, refl)
  fit_content w p number identity (Row x y code label) e here =
      let all = All-In (λ r. is_row_in_range f r ≡ true) (record
      { id = number; x = x; y = y; code = code; label = label }) t.rows inside.rows here in
      let text = and_parts (is_local number && in_frame f x y && is_within (pos 0) (pos 999999) code &&
      is_length_within 0 200 label) (not (list_any (λ c. c == 10) label)) all in
      let long = and_parts (is_local number && in_frame f x y && is_within (pos 0) (pos 999999) code)
      (is_length_within 0 200 label) text.0 in
      let coded = and_parts (is_local number && in_frame f x y) (is_within (pos 0) (pos 999999) code) long.0 in
      let point = and_parts (is_local number) (in_frame f x y) coded.0 in
      (not_true _ text.1, and_from _ _ long.1 coded.1, refl, ap not (ap (λ g. in_frame g x y) e ∙ point.1))

  pub items_fit : (numbered : List Numbered) → AllByRecursion (IsHere t) numbered → (w : World) (p : Package)
      → w.frame ≡ f → AllByRecursion (IsFit w p) (arranged item_key (map (λ n. n.item) numbered))
  items_fit numbered here w p e = All-arranged item_key (IsFit w p) (map (λ n. n.item) numbered)
      (All-map (IsFit w p) (λ n. n.item) numbered (All-weaker (IsHere t) _
      (λ n h. fit_content w p n.number n.item.identity n.item.content e h.content) numbered here))

  -- ---- places

  module _ (good : is_good_frame f ≡ true) (apart : IsDistinct is_same_place t.tiles) where
    place_flips : (x y : TileRow) → is_same_place x y ≡ is_same_place y x
    place_flips x y = λ i. int_flips x.zoom_level y.zoom_level i && int_flips x.tile_column y.tile_column i &&
        int_flips x.tile_row y.tile_row i

    -- tiles in one place are one
    one_row : (x y : TileRow) → In x t.tiles → In y t.tiles → unsigned_abs x.zoom_level
        ≡ unsigned_abs y.zoom_level
        → unsigned_abs x.tile_column ≡ unsigned_abs y.tile_column
        → unsigned_abs x.tile_row ≡ unsigned_abs y.tile_row
        → x ≡ y
    one_row x y i j zoom column row =
        let n = not_below f x.zoom_level x.tile_column x.tile_row good (tile_in x i).1 in
        let m = not_below f y.zoom_level y.tile_column y.tile_row good (tile_in y j).1 in
        one_by is_same_place place_flips t.tiles apart x y i j
        (and_from _ _ (and_from _ _ (alike _ _ (same_size x.zoom_level y.zoom_level n.0 m.0 zoom))
        (alike _ _ (same_size x.tile_column y.tile_column n.1 m.1 column)))
        (alike _ _ (same_size x.tile_row y.tile_row n.2 m.2 row)))
      where
        alike : (a b : ℤ) → a ≡ b → int_eq a b ≡ true
        alike a b e = grind (arith)

    one_number : (n m : ℤ) (c d : Content) → HasContent t n c → HasContent t m d
        → is_tile (record { identity = []; content = c }) ≡ true
        → is_tile (record { identity = []; content = d }) ≡ true → place_of c ≡ place_of d → (n ≡ m)
        × (kind_number (kind_of c) ≡ kind_number (kind_of d))
    one_number n m (Tile zoom column row bytes) (Tile zoom' column' row' bytes') hc hd tc td e =
        let zooms : unsigned_abs zoom ≡ unsigned_abs zoom' = cc in
        let columns : unsigned_abs column ≡ unsigned_abs column' = cc in
        let rows : unsigned_abs row ≡ unsigned_abs row' = cc in (
          ap (λ x. x.id) (one_row (record {
            id = n;
            zoom_level = zoom;
            tile_column = column;
            tile_row = row;
            tile_data = bytes;
          }) (record {
            id = m;
            zoom_level = zoom';
            tile_column = column';
            tile_row = row';
            tile_data = bytes';
          }) hc hd zooms columns rows),
          refl,
        )
    one_number n m (Tile zoom column row bytes) (Media content_type bytes') hc hd tc td e = absurd (false≢true td)
    one_number n m (Tile zoom column row bytes) (Row x y code label) hc hd tc td e = absurd (false≢true td)
    one_number n m (Media content_type bytes) d hc hd tc td e = absurd (false≢true tc)
    one_number n m (Row x y code label) d hc hd tc td e = absurd (false≢true tc)

    module _ (numbered : List Numbered) (here : AllByRecursion (IsHere t) numbered)
        (numbers : IsNumbering numbered) where
      -- a tile of the package
      record IsTileOf (i : Item) : Type 0 where
        item : Numbered
        there : In item numbered
        is : item.item ≡ i
        tile : is_tile i ≡ true

      one_item : (n m : Numbered) → In n numbered → In m numbered → is_tile n.item ≡ true
          → is_tile m.item ≡ true
          → place_of n.item.content ≡ place_of m.item.content → n ≡ m
      one_item n m i j tn tm e =
          let at = one_number n.number m.number n.item.content m.item.content
          (All-In (IsHere t) n numbered here i).content (All-In (IsHere t) m numbered here j).content tn tm
          e in
          let same : place_in_tables n ≡ place_in_tables m = λ k. at.1 k ∷ unsigned_abs (at.0 k) ∷ [] in
          one_by (λ a b. bytes_eq (place_in_tables a) (place_in_tables b))
          (λ a b. bytes_eq_swap (place_in_tables a) (place_in_tables b)) numbered
          (distinct_of_map bytes_eq place_in_tables numbered numbers.numbers) n m i j
          ((bytes_eq-Decides (place_in_tables n) (place_in_tables m)).1 same)

      differ : (a b : Item) → IsTileOf a → IsTileOf b → bytes_eq a.identity b.identity ≡ false
          → bytes_eq (place_of a.content) (place_of b.content) ≡ false
      differ a b ha hb d = false_from_ne_true _ (λ e.
          let place : place_of a.content ≡ place_of b.content =
          (bytes_eq-Decides (place_of a.content) (place_of b.content)).0 e in
          let here : place_of ha.item.item.content ≡ place_of hb.item.item.content =
          ap (λ i. place_of i.content) ha.is ∙ place ∙ ap (λ i. place_of i.content) (sym hb.is) in
          let one : ha.item ≡ hb.item = one_item ha.item hb.item ha.there hb.there (ap is_tile ha.is ∙ ha.tile)
          (ap is_tile hb.is ∙ hb.tile) here in
          let identity : a.identity ≡ b.identity = ap (λ i. i.identity) (sym ha.is)
          ∙ ap (λ n. n.item.identity) one
          ∙ ap (λ i. i.identity) hb.is in
          true≢false (sym ((bytes_eq-Decides a.identity b.identity).1 identity) ∙ d))

      abbrev items : List Item
      items = arranged item_key (map (λ n. n.item) numbered)

      tiles_of : AllByRecursion IsTileOf (filter is_tile items)
      tiles_of =
          All-both (λ i. (n : Numbered) × In n numbered × (n.item ≡ i)) (λ i. is_tile i ≡ true) IsTileOf
          (λ i h tile. record { item = h.0; there = h.1; is = h.2; tile = tile }) (filter is_tile items)
          (All-filter _ is_tile items (All-arranged item_key (λ i. (n : Numbered) × In n numbered × (n.item ≡ i))
          (map (λ n. n.item) numbered) (All-map _ (λ n. n.item) numbered
          (All-weaker _ _ (λ n i. (n, i, refl)) numbered (In-all numbered)))))
          (filter_passes is_tile items)

      apart_items : IsDistinct bytes_eq (map (λ i. i.identity) (filter is_tile items))
      apart_items =
          let there = map (λ n. n.item) numbered in
          let first : IsDistinct bytes_eq (map (λ i. i.identity) there) =
          subst (IsDistinct bytes_eq) (sym (maps (λ i. i.identity) (λ n. n.item) numbered))
          numbers.identities in
          distinct_filter (λ i. i.identity) is_tile items (IsDistinct-IsPermutation bytes_eq bytes_eq_swap
          (map (λ i. i.identity) there) (map (λ i. i.identity) items)
          (IsPermutation-map (λ i. i.identity) there items (arranged_permutation item_key there)) first)

      pub places_apart : IsDistinct bytes_eq (map (λ i. place_of i.content) (filter is_tile items))
      places_apart = distinct_keys (λ a b. bytes_eq a.identity b.identity) (λ i. place_of i.content) IsTileOf differ
          (filter is_tile items) tiles_of (distinct_of_map bytes_eq (λ i. i.identity) (filter is_tile items)
          apart_items)
