-- Rows in their ranges stand under no number below zero.
use Rattle.std.proofs.Common.{◌≡◌, ◌∙◌, ℕ, ◌+◌, ℤ, pos, List, [], ◌∷◌, map, Bool, true}
use Rattle.std.proofs.Common.{false, refl, sym, subst, arith}
use Rattle.std.specs.Prelude.{int_le, ◌&&◌, ◌||◌, ◌==◌, not, cond, filter, IsPermutation}
use Rattle.std.specs.List.{AllByRecursion, enumerate_from, list_all, list_any}
use Rattle.std.specs.Ordering.{int_eq}
use Rattle.std.proofs.lemmas.Bool.{and_from, and_parts, false≢true}
use Rattle.std.proofs.lemmas.Int.{ints}
use Rattle.std.proofs.lemmas.List.Sorted.{IsPermutation-sym}
use Rattle.sheet_types.proofs.Every.{All-both, All-of_map, All-weaker}
use Rattle.sheet_types.proofs.Same.{All-In, In, In-all}
use Rattle.sheet_types.specs.Matrix.{has_place, in_frame, is_within}
use Rattle.sheet_types.specs.Refuse.{is_length_within, is_printable}
use Rattle.sheet_types.specs.declared.frame.Frame.{Frame}
use Rattle.package_tables.specs.Package.{Tables}
use Rattle.package_tables.specs.declared.rows.AttributeRow.{AttributeRow}
use Rattle.package_tables.specs.declared.rows.IdentityRow.{IdentityRow}
use Rattle.package_tables.specs.declared.rows.MappingRow.{MappingRow}
use Rattle.package_tables.specs.declared.rows.MediaRow.{MediaRow}
use Rattle.package_tables.specs.declared.rows.MovedRow.{MovedRow}
use Rattle.package_tables.specs.declared.rows.ReceiptRow.{ReceiptRow}
use Rattle.package_tables.specs.declared.rows.TileRow.{TileRow}
use Rattle.identity_register.proofs.Finding.{moved}
use Rattle.package_copy.specs.declared.package_rows.PackageRows.{PackageRows}
use Rattle.package_items.specs.Ranges.{AreItemsInRange, IsIdentityInRange, is_local, is_medium_in_range}
use Rattle.package_items.specs.Ranges.{is_pair_in_range, is_row_in_range, is_tile_in_range}
use Rattle.package_receipts.specs.Ranges.{AreReceiptsInRange, HavePlaces, IsReceiptInRange, moved_under, places}
use Rattle.package_receipts.proofs.Lists.{int_eq_at, int_eq_itself}
use Rattle.opening_v1.specs.Copies.{AreRowsOf}
use Rattle.opening_v1.specs.Numbers.{have_link_numbers, have_receipt_numbers, have_numbers, is_number}

-- a number of a range above zero
above : (high n : ℤ) → is_within (pos 1) high n ≡ true → is_number n ≡ true
above high n h =
    let low : int_le (pos 1) n ≡ true = (and_parts (int_le (pos 1) n) (int_le n high) h).0 in
    let so : true ≡ int_le (pos 0) n = omega (arith, ints, low) in
    sym so

-- a test that each element passes, in whatever order they stand
each : {X : Type 0} (p : X → Bool) (xs : List X) → AllByRecursion (λ x. p x ≡ true) xs → list_all p xs ≡ true
each p [] h = refl
each p (x ∷ xs) h = and_from (p x) (list_all p xs) h.0 (each p xs h.1)

all_moved : {X : Type 0} (P : X → Type 0) (xs ys : List X) → IsPermutation xs ys → AllByRecursion P xs
    → AllByRecursion P ys
all_moved P xs ys moves all = All-weaker (λ y. In y ys) P (λ y i. All-In P y xs all
    (moved y ys xs (IsPermutation-sym xs ys moves) i)) ys (In-all ys)

each_moved : {X : Type 0} (P : X → Type 0) (p : X → Bool) → ((x : X) → P x → p x ≡ true)
    → (xs ys : List X)
    → IsPermutation xs ys → AllByRecursion P xs → list_all p ys ≡ true
each_moved P p says xs ys moves all = each p ys (all_moved (λ x. p x ≡ true) xs ys moves
    (All-weaker P (λ x. p x ≡ true) says xs all))

-- what follows of each element that passes follows where one does
some_passes : {X G : Type 0} (p : X → Bool) (xs : List X) → list_any p xs ≡ true
    → AllByRecursion (λ x. p x ≡ true → G) xs → G
some_passes p [] any all = absurd (false≢true any)
some_passes {X} {G} p (x ∷ xs) any all =
    elim (p x) as (λ v. p x ≡ v → (v || list_any p xs) ≡ true → G) [
      | true ↦ λ e h. all.0 e
      | false ↦ λ e h. some_passes p xs h all.1
    ] refl any

-- a fact of what passes
of_filtered : {X : Type 0} (P : X → Type 0) (p : X → Bool) (xs : List X) → AllByRecursion P (filter p xs)
    → AllByRecursion (λ x. p x ≡ true → P x) xs
of_filtered P p [] h = tt
of_filtered P p (x ∷ xs) h =
    elim (p x) as (λ v. p x ≡ v → AllByRecursion P (cond v (x ∷ filter p xs) (filter p xs))
    → AllByRecursion (λ x. p x ≡ true → P x) (x ∷ xs)) [
      | true ↦ λ e h. (λ _. h.0, of_filtered P p xs h.1)
      | false ↦ λ e h. (λ k. absurd (false≢true (sym e ∙ k)), of_filtered P p xs h)
    ] refl h

-- ---- one row

tile : (f : Frame) (r : TileRow) → is_tile_in_range f r ≡ true → is_number r.id ≡ true
tile f r h = above (pos 1000000) r.id (and_parts (is_local r.id) (has_place f r.zoom_level r.tile_column r.tile_row)
    (and_parts _ (is_length_within 1 1048576 r.tile_data) h).0).0

medium : (r : MediaRow) → is_medium_in_range r ≡ true → is_number r.id ≡ true
medium r h = above (pos 1000000) r.id (and_parts (is_local r.id) (is_length_within 1 1048576 r.data)
    (and_parts _ (is_length_within 1 100 r.content_type) (and_parts _ (list_all is_printable r.content_type)
    h).0).0).0

attributes : (f : Frame) (r : AttributeRow) → is_row_in_range f r ≡ true → is_number r.id ≡ true
attributes f r h =
    above (pos 1000000) r.id (and_parts (is_local r.id) (in_frame f r.x r.y)
    (and_parts _ (is_within (pos 0) (pos 999999) r.code)
    (and_parts _ (is_length_within 0 200 r.label) (and_parts _ (not (list_any (λ c. c == 10) r.label))
    h).0).0).0).0

pair : (r : MappingRow) → is_pair_in_range r ≡ true → (is_number r.base_id && is_number r.related_id) ≡ true
pair r h =
    let both = and_parts (is_local r.base_id) (is_local r.related_id) h in
    and_from (is_number r.base_id) (is_number r.related_id) (above (pos 1000000) r.base_id both.0)
    (above (pos 1000000) r.related_id both.1)

identity : (r : IdentityRow) → IsIdentityInRange r → (is_number r.kind && is_number r.local_id) ≡ true
identity r h = and_from (is_number r.kind) (is_number r.local_id) (above (pos 3) r.kind h.kind)
    (above (pos 1000000) r.local_id h.number)

receipt : (r : ReceiptRow) → IsReceiptInRange r → is_number r.seq ≡ true
receipt r h = above (pos 1000000000) r.seq h.seq

-- ---- what receipts moved

places_from : {X : Type 0} (n : ℕ) (xs : List X) → AllByRecursion (λ z. is_number z ≡ true)
    (map (λ x. pos x.0) (enumerate_from n xs))
places_from n [] = tt
places_from n (x ∷ xs) =
    let so : true ≡ int_le (pos 0) (pos n) = omega (arith, ints) in
    (sym so, places_from (n + 1) xs)

at_places : (rows : List MovedRow) → HavePlaces rows → AllByRecursion (λ m. is_number m.position ≡ true) rows
at_places rows h = All-of_map (λ z. is_number z ≡ true) (λ m. m.position) rows
    (all_moved (λ z. is_number z ≡ true) (places rows) (map (λ m. m.position) rows)
    (IsPermutation-sym (map (λ m. m.position) rows) (places rows) h) (places_from 0 rows))

things : (receipts : List ReceiptRow) (rows : List MovedRow) → AreReceiptsInRange receipts rows
    → AllByRecursion (λ m. (is_number m.seq && is_number m.position) ≡ true) rows
things receipts rows it = All-both (λ m. In m rows) (λ m. list_any (λ r. int_eq r.seq m.seq) receipts ≡ true)
    (λ m. (is_number m.seq && is_number m.position) ≡ true) thing rows (In-all rows) it.owners
  where
    seq : (m : MovedRow) (r : ReceiptRow) → IsReceiptInRange r → int_eq r.seq m.seq ≡ true
        → is_number m.seq ≡ true
    seq m r h e = subst (λ z. is_number z ≡ true) (int_eq_at r.seq m.seq e) (receipt r h)

    position : (m : MovedRow) → In m rows → (r : ReceiptRow) → HavePlaces (moved_under r.seq rows)
        → int_eq r.seq m.seq ≡ true → is_number m.position ≡ true
    position m i r h e =
        All-In (λ n. int_eq n.seq r.seq ≡ true → is_number n.position ≡ true) m rows
        (of_filtered (λ n. is_number n.position ≡ true) (λ n. int_eq n.seq r.seq) rows
        (at_places (moved_under r.seq rows) h)) i
        (subst (λ z. int_eq z r.seq ≡ true) (int_eq_at r.seq m.seq e) (int_eq_itself r.seq))

    thing : (m : MovedRow) → In m rows → list_any (λ r. int_eq r.seq m.seq) receipts ≡ true
        → (is_number m.seq && is_number m.position) ≡ true
    thing m i own =
        and_from (is_number m.seq) (is_number m.position)
        (some_passes (λ r. int_eq r.seq m.seq) receipts own (All-weaker IsReceiptInRange
        (λ r. int_eq r.seq m.seq ≡ true → is_number m.seq ≡ true) (seq m) receipts it.rows))
        (some_passes (λ r. int_eq r.seq m.seq) receipts own (All-weaker (λ r. HavePlaces (moved_under r.seq rows))
        (λ r. int_eq r.seq m.seq ≡ true → is_number m.position ≡ true) (position m i) receipts it.positions))

-- ---- all rows

pub numbered : (f : Frame) (t : Tables) (x : PackageRows) → AreRowsOf t x
    → AreItemsInRange f (record t { rows_tiles = [] }) → AreReceiptsInRange t.receipts t.moved
    → have_numbers x ≡ true
numbered f t x are it entered =
    let tiles = each_moved (λ r. is_tile_in_range f r ≡ true) (λ r. is_number r.id) (tile f) t.tiles x.tiles.items
    are.tiles it.tiles in
    let media = each_moved (λ r. is_medium_in_range r ≡ true) (λ r. is_number r.id) medium t.media x.media.items
    are.media it.media in
    let rows = each_moved (λ r. is_row_in_range f r ≡ true) (λ r. is_number r.id) (attributes f) t.rows x.rows.items
    are.rows it.rows in
    let identities = each_moved IsIdentityInRange (λ r. is_number r.kind && is_number r.local_id) identity
    t.identities x.identities.items are.identities it.identities in
    let tiles_media = each_moved (λ r. is_pair_in_range r ≡ true)
    (λ r. is_number r.base_id && is_number r.related_id)
    pair t.tiles_media x.tiles_media.items are.tiles_media it.tiles_media in
    let rows_media = each_moved (λ r. is_pair_in_range r ≡ true)
    (λ r. is_number r.base_id && is_number r.related_id)
    pair t.rows_media x.rows_media.items are.rows_media it.rows_media in
    let receipts = each_moved IsReceiptInRange (λ r. is_number r.seq) receipt t.receipts x.receipts.items are.receipts
    entered.rows in
    let things_of = each_moved (λ m. (is_number m.seq && is_number m.position) ≡ true)
    (λ m. is_number m.seq && is_number m.position) (λ m h. h) t.moved x.moved.items are.moved
    (things t.receipts t.moved entered) in
    and_from _ (have_receipt_numbers x) (and_from _ (have_link_numbers x)
    (and_from _ _ (and_from _ _ (and_from _ _ tiles media) rows) identities)
    (and_from _ _ tiles_media rows_media)) (and_from _ _ receipts things_of)
