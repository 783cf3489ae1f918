-- Rows that are in range, tied and unique are those of the items and links of a package.
use Rattle.std.proofs.Common.{◌≡◌, ℤ, pos, List, [], ◌++◌, map, true, false, cond, refl, sym, ap}
use Rattle.std.proofs.Common.{◌∙◌, arith}
use Rattle.std.specs.Prelude.{bytes_eq, unsigned_abs, flat_map, ◌==◌, not, int_le}
use Rattle.std.specs.List.{AllByRecursion, IsDistinct, list_any, list_all}
use Rattle.std.specs.Ordering.{int_eq}
use Rattle.std.proofs.lemmas.Int.{ints}
use Rattle.std.proofs.lemmas.Bool.{true≢false, false_from_ne_true, and_parts, and_from}
use Rattle.std.proofs.lemmas.List.{append-nil}
use Rattle.std.proofs.lemmas.Grind.{flat_map-append}
use Rattle.std.proofs.lemmas.Slice.Eq.{bytes_eq-Decides}
use borrow.Author.Tests.{eq-eqb}
use Rattle.sqlite.specs.Effect.{Database}
use Rattle.sheet_types.specs.Matrix.{is_within, has_place, in_frame, is_good_frame}
use Rattle.sheet_types.specs.Ordered.{arranged, IsArranged}
use Rattle.sheet_types.specs.Refuse.{is_length_within, is_printable}
use Rattle.sheet_types.specs.Register.{HasEnds}
use Rattle.sheet_types.specs.World.{Package, item_key, link_key}
use Rattle.sheet_types.specs.declared.command.Mapping.{Mapping}
use Rattle.sheet_types.specs.declared.command.Mapping.TheVariants.{TilesMedia, RowsMedia, RowsTiles}
use Rattle.sheet_types.specs.declared.command.Relation.{Relation}
use Rattle.sheet_types.specs.declared.frame.Frame.{Frame}
use Rattle.sheet_types.specs.declared.receipt.MovedKind.TheVariants.{TileItem, MediaItem, RowItem}
use Rattle.sheet_types.proofs.Arranging.{IsInOrder, arranged_in_order}
use Rattle.sheet_types.proofs.Every.{All-weaker, All-append}
use Rattle.sheet_types.proofs.Same.{In, All-In}
use Rattle.package_tables.specs.Package.{Tables, tables_of, AreFormed}
use Rattle.package_tables.specs.Mappings.{pair_shape, mapping_rows}
use Rattle.package_tables.specs.Shape.{stored_rows}
use Rattle.package_tables.specs.Shapes.{tile_shape, medium_shape, attribute_shape, identity_shape, pair_key, number_key}
use Rattle.package_tables.specs.declared.rows.IdentityRow.{IdentityRow}
use Rattle.package_tables.proofs.Written.{tiles_listed, media_listed, attributes_listed}
use Rattle.identity_register.specs.Numbering.{Numbered, IsNumbering, identity_row, tile_rows, media_rows}
use Rattle.identity_register.specs.Numbering.{attribute_rows, mapping_row, mapping_is, rows_in, is_pair, is_taken}
use Rattle.identity_register.specs.Reads.{SaysItems, SaysLinks, SaysPairs}
use Rattle.identity_register.proofs.Deleting.{tiles_of_kind, media_of_kind, attributes_of_kind, same_number}
use Rattle.package_items.specs.Laws.{HoldsItems, SaysWhatItHolds}
use Rattle.package_items.specs.Ranges.{AreItemsInRange, IsIdentityInRange, is_local, is_pair_in_range}
use Rattle.package_items.specs.Tied.{AreTied, AreUnique, is_same_row, has_ends}
use Rattle.package_items.proofs.Apart.{distinct_keys, set_in_order, arranged_again, distinct_both, ids_apart}
use Rattle.package_items.proofs.Items.{table_is, tile_here, medium_here, attributes_here}
use Rattle.package_items.proofs.Links.{pairs_set, links_of, keys_apart, others_apart, rows_of_links, ends_there, Joins}
use Rattle.package_items.proofs.Places.{items_fit, places_apart, same_size}
use Rattle.package_items.proofs.Numbers.{HasContent, IsHere, all_items, numbering, named}

-- what a table of a formed database gives: its rows in order, those of a user table under numbers of their own
record AreListed (t : Tables) : Type 0 where
  tiles : IsInOrder tile_shape.key t.tiles
  media : IsInOrder medium_shape.key t.media
  rows : IsInOrder attribute_shape.key t.rows
  identities : IsInOrder identity_shape.key t.identities
  pairs : (m : Mapping) → IsInOrder (pair_shape m).key (mapping_rows m t)
  tile_ids : IsDistinct (λ a b. int_eq a.id b.id) t.tiles
  media_ids : IsDistinct (λ a b. int_eq a.id b.id) t.media
  row_ids : IsDistinct (λ a b. int_eq a.id b.id) t.rows

listed : (db : Database) → AreFormed db → AreListed (tables_of db)
listed db formed = record {
  tiles = arranged_in_order tile_shape.key (map tile_shape.typed (stored_rows tile_shape db));
  media = arranged_in_order medium_shape.key (map medium_shape.typed (stored_rows medium_shape db));
  rows = arranged_in_order attribute_shape.key (map attribute_shape.typed (stored_rows attribute_shape db));
  identities = arranged_in_order identity_shape.key (map identity_shape.typed (stored_rows identity_shape db));
  pairs = pairs;
  tile_ids = ids_apart tiles_listed (λ x. x.id) (λ v x. refl) db formed;
  media_ids = ids_apart media_listed (λ x. x.id) (λ v x. refl) db formed;
  row_ids = ids_apart attributes_listed (λ x. x.id) (λ v x. refl) db formed;
}
  where
    pairs : (m : Mapping) → IsInOrder (pair_shape m).key (mapping_rows m (tables_of db))
    pairs TilesMedia = arranged_in_order (pair_shape TilesMedia).key
        (map (pair_shape TilesMedia).typed (stored_rows (pair_shape TilesMedia) db))
    pairs RowsMedia = arranged_in_order (pair_shape RowsMedia).key
        (map (pair_shape RowsMedia).typed (stored_rows (pair_shape RowsMedia) db))
    pairs RowsTiles = arranged_in_order (pair_shape RowsTiles).key
        (map (pair_shape RowsTiles).typed (stored_rows (pair_shape RowsTiles) db))

-- rows under local numbers of their own have keys of their own
ids_set : {R : Type 0} (id : R → ℤ) (table : List R) → IsInOrder (λ x. number_key (id x)) table
    → AllByRecursion (λ x. is_local (id x) ≡ true) table → IsDistinct (λ a b. int_eq (id a) (id b)) table
    → IsArranged (λ x. number_key (id x)) table
ids_set {R} id table order range apart = set_in_order (λ x. number_key (id x)) table order
    (distinct_keys _ (λ x. number_key (id x)) (λ x. is_local (id x) ≡ true) differ table range apart)
  where
    differ : (x y : R) → is_local (id x) ≡ true → is_local (id y) ≡ true → int_eq (id x) (id y) ≡ false
        → bytes_eq (number_key (id x)) (number_key (id y)) ≡ false
    differ x y hx hy d = false_from_ne_true _ (λ e.
        let same = (bytes_eq-Decides (number_key (id x)) (number_key (id y))).0 e in
        let number : unsigned_abs (id x) ≡ unsigned_abs (id y) = cc in
        true≢false (sym (same_number (id x) (id y) hx hy ∙ eq-eqb _ _ number) ∙ d))

-- identity rows in range, no two of one row, have keys of their own
identities_set : (table : List IdentityRow) → IsInOrder identity_shape.key table
    → AllByRecursion IsIdentityInRange table → IsDistinct is_same_row table → IsArranged identity_shape.key table
identities_set table order range apart = set_in_order identity_shape.key table order
    (distinct_keys is_same_row identity_shape.key IsIdentityInRange differ table range apart)
  where
    above : (high n : ℤ) → is_within (pos 1) high n ≡ true → int_le (pos 0) n ≡ true
    above high n h = let low = (and_parts (int_le (pos 1) n) (int_le n high) h).0 in grind (arith, ints)

    alike : (a b : ℤ) → a ≡ b → int_eq a b ≡ true
    alike a b e = grind (arith)

    differ : (x y : IdentityRow) → IsIdentityInRange x → IsIdentityInRange y → is_same_row x y ≡ false
        → bytes_eq (pair_key x.kind x.local_id) (pair_key y.kind y.local_id) ≡ false
    differ x y hx hy d = false_from_ne_true _ (λ e.
        let same = (bytes_eq-Decides (pair_key x.kind x.local_id) (pair_key y.kind y.local_id)).0 e in
        let kinds : unsigned_abs x.kind ≡ unsigned_abs y.kind = cc in
        let numbers : unsigned_abs x.local_id ≡ unsigned_abs y.local_id = cc in
        let kind = same_size x.kind y.kind (above (pos 3) x.kind hx.kind) (above (pos 3) y.kind hy.kind) kinds in
        let number = same_size x.local_id y.local_id (above (pos 1000000) x.local_id hx.number)
        (above (pos 1000000) y.local_id hy.number) numbers in
        true≢false (sym (and_from (int_eq x.kind y.kind) (int_eq x.local_id y.local_id) (alike _ _ kind)
        (alike _ _ number)) ∙ d))

module _ (f : Frame) (t : Tables) (good : is_good_frame f ≡ true) (listed : AreListed t)
    (inside : AreItemsInRange f t) (tied : AreTied t) (unique : AreUnique t) where
  -- ---- items

  module _ (numbered : List Numbered) (rows : map identity_row numbered ≡ t.identities)
      (here : AllByRecursion (IsHere t) numbered) (numbers : IsNumbering numbered) where
    content_here : (n : Numbered) → In n numbered → HasContent t n.number n.item.content
    content_here n i = (All-In (IsHere t) n numbered here i).content

    says_items : SaysItems numbered (arranged item_key (map (λ n. n.item) numbered)) t.tiles t.media t.rows
        t.identities
    says_items = record {
      numbers = numbers;
      items = refl;
      tiles = table_is TileItem tile_rows (λ r. r.id) tiles_of_kind numbered t.tiles
          (ids_set (λ r. r.id) t.tiles listed.tiles (All-weaker _ _
          (λ r h. (and_parts (is_local r.id) (has_place f r.zoom_level r.tile_column r.tile_row)
          (and_parts _ (is_length_within 1 1048576 r.tile_data) h).0).0) t.tiles inside.tiles) listed.tile_ids)
          listed.tile_ids numbers.numbers (λ n i. tile_here t n.number n.item.content (content_here n i))
          (λ x i. named t numbered rows TileItem x.id (All-In (λ r. is_taken (pos 1) r.id t ≡ true) x t.tiles
          tied.tiles i));
      media = table_is MediaItem media_rows (λ r. r.id) media_of_kind numbered t.media
          (ids_set (λ r. r.id) t.media listed.media (All-weaker _ _
          (λ r h. (and_parts (is_local r.id) (is_length_within 1 1048576 r.data)
          (and_parts _ (is_length_within 1 100 r.content_type)
          (and_parts _ (list_all is_printable r.content_type) h).0).0).0) t.media inside.media) listed.media_ids)
          listed.media_ids numbers.numbers (λ n i. medium_here t n.number n.item.content (content_here n i))
          (λ x i. named t numbered rows MediaItem x.id (All-In (λ r. is_taken (pos 2) r.id t ≡ true) x t.media
          tied.media i));
      rows = table_is RowItem attribute_rows (λ r. r.id) attributes_of_kind numbered t.rows
          (ids_set (λ r. r.id) t.rows listed.rows (All-weaker _ _
          (λ r h. (and_parts (is_local r.id) (in_frame f r.x r.y)
          (and_parts _ (is_within (pos 0) (pos 999999) r.code)
          (and_parts _ (is_length_within 0 200 r.label) (and_parts _ (not (list_any (λ c. c == 10) r.label))
          h).0).0).0).0) t.rows inside.rows) listed.row_ids)
          listed.row_ids numbers.numbers (λ n i. attributes_here t n.number n.item.content (content_here n i))
          (λ x i. named t numbered rows RowItem x.id (All-In (λ r. is_taken (pos 3) r.id t ≡ true) x t.rows
          tied.rows i));
      identities = sym (ap (arranged identity_shape.key) rows
          ∙ arranged_again identity_shape.key t.identities (identities_set t.identities listed.identities
          inside.identities unique.numbers));
    }

    -- ---- links

    have_ends : (m : Mapping) → AllByRecursion (λ r. has_ends m t r ≡ true) (mapping_rows m t)
    have_ends TilesMedia = tied.tiles_media
    have_ends RowsMedia = tied.rows_media
    have_ends RowsTiles = tied.rows_tiles

    pairs_in : (m : Mapping) → AllByRecursion (λ r. is_pair_in_range r ≡ true) (mapping_rows m t)
    pairs_in TilesMedia = inside.tiles_media
    pairs_in RowsMedia = inside.rows_media
    pairs_in RowsTiles = inside.rows_tiles

    pairs_apart : (m : Mapping) → IsDistinct is_pair (mapping_rows m t)
    pairs_apart TilesMedia = unique.tiles_media
    pairs_apart RowsMedia = unique.rows_media
    pairs_apart RowsTiles = unique.rows_tiles

    made : (m : Mapping) → (ls : List Relation) × (map (mapping_row numbered) ls ≡ mapping_rows m t)
        × AllByRecursion (Joins t numbered rows numbers tied m) ls
    made m = links_of t numbered rows numbers tied m (mapping_rows m t) (have_ends m)

    apart_in : (m : Mapping) → IsDistinct bytes_eq (map link_key (made m).0)
    apart_in m = keys_apart t numbered rows numbers tied m (made m).0 (mapping_rows m t) (made m).1 (made m).2
        (pairs_apart m)

    apart_between : (m k : Mapping) → mapping_is m k ≡ false
        → AllByRecursion (λ x. AllByRecursion (λ y. bytes_eq (link_key x) (link_key y) ≡ false) (made k).0)
        (made m).0
    apart_between m k two = others_apart t numbered rows numbers tied m k two (made m).0 (made k).0 (made m).2
        (made k).2

    abbrev linked : List Relation
    linked = ((made TilesMedia).0 ++ (made RowsMedia).0) ++ (made RowsTiles).0

    linked_apart : IsDistinct bytes_eq (map link_key linked)
    linked_apart = distinct_both link_key ((made TilesMedia).0 ++ (made RowsMedia).0) (made RowsTiles).0
        (distinct_both link_key (made TilesMedia).0 (made RowsMedia).0 (apart_in TilesMedia) (apart_in RowsMedia)
        (apart_between TilesMedia RowsMedia refl)) (apart_in RowsTiles)
        (All-append _ (made TilesMedia).0 (made RowsMedia).0 (apart_between TilesMedia RowsTiles refl)
        (apart_between RowsMedia RowsTiles refl))

    parted : (m : Mapping) → flat_map (rows_in m numbered) linked
        ≡ (cond (mapping_is TilesMedia m) t.tiles_media [] ++ cond (mapping_is RowsMedia m) t.rows_media [])
        ++ cond (mapping_is RowsTiles m) t.rows_tiles []
    parted m =
        flat_map-append (rows_in m numbered) ((made TilesMedia).0 ++ (made RowsMedia).0) (made RowsTiles).0
        ∙ ap (λ l. l ++ flat_map (rows_in m numbered) (made RowsTiles).0)
        (flat_map-append (rows_in m numbered) (made TilesMedia).0 (made RowsMedia).0)
        ∙ (λ n. (part TilesMedia n ++ part RowsMedia n) ++ part RowsTiles n)
      where
        part : (k : Mapping) → flat_map (rows_in m numbered) (made k).0
            ≡ cond (mapping_is k m) (mapping_rows k t) []
        part k = rows_of_links t numbered rows numbers tied m k (made k).0 (made k).2
            ∙ ap (λ l. cond (mapping_is k m) l []) (made k).1

    whole : (m : Mapping) → flat_map (rows_in m numbered) linked ≡ mapping_rows m t
    whole TilesMedia = parted TilesMedia ∙ append-nil (t.tiles_media ++ []) ∙ append-nil t.tiles_media
    whole RowsMedia = parted RowsMedia ∙ append-nil t.rows_media
    whole RowsTiles = parted RowsTiles

    says_pairs : (m : Mapping) → SaysPairs m numbered linked (mapping_rows m t)
    says_pairs m = sym (ap (arranged (pair_shape m).key) (whole m)
        ∙ arranged_again (pair_shape m).key (mapping_rows m t)
        (pairs_set m (mapping_rows m t) (listed.pairs m) (pairs_in m) (pairs_apart m)))

    says_links : SaysLinks numbered linked (arranged link_key linked) t.tiles_media t.rows_media t.rows_tiles
    says_links = record {
      distinct_links = linked_apart;
      links = refl;
      tiles_media = says_pairs TilesMedia;
      rows_media = says_pairs RowsMedia;
      rows_tiles = says_pairs RowsTiles;
    }

    ends_in : (p : Package) → p.items ≡ arranged item_key (map (λ n. n.item) numbered)
        → AllByRecursion (HasEnds p) linked
    ends_in p items = All-append (HasEnds p) ((made TilesMedia).0 ++ (made RowsMedia).0) (made RowsTiles).0
        (All-append (HasEnds p) (made TilesMedia).0 (made RowsMedia).0 (of TilesMedia) (of RowsMedia)) (of RowsTiles)
      where
        of : (m : Mapping) → AllByRecursion (HasEnds p) (made m).0
        of m = ends_there t numbered rows numbers tied p items m (made m).0 (made m).2

    holds_by : HoldsItems f t
    holds_by = record {
      numbered = numbered;
      items = arranged item_key (map (λ n. n.item) numbered);
      of_items = says_items;
      fit = items_fit f t inside numbered here;
      places = places_apart f t inside good unique.places numbered here numbers;
      linked = linked;
      links = arranged link_key linked;
      of_links = says_links;
      ends = ends_in;
    }

  holds : HoldsItems f t
  holds = let all = all_items t inside tied in holds_by all.0 all.1 all.2 (numbering t all.0 all.1 all.2 unique)

pub says_what_it_holds : SaysWhatItHolds
says_what_it_holds f db good formed inside tied unique = holds f (tables_of db) good (listed db formed) inside tied
    unique
