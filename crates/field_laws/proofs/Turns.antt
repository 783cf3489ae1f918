-- The requests for a file, each ready when its turn comes: the four parts.
use Rattle.std.specs.Prelude.{◌≡◌, ◌≤◌, ◌+◌, ℕ, Bool, true, false, cond, not, ◌&&◌, ◌||◌}
use Rattle.std.specs.Prelude.{nat_lt, List, [], ◌∷◌, ◌++◌}
use Rattle.std.specs.Prelude.{map, filter, bytes_eq, count_by, length, refl}
use Rattle.std.proofs.Common.{sym, ap, subst, ◌∙◌, arith}
use Rattle.std.specs.List.{list_any, AllByRecursion, IsDistinct}
use Rattle.std.proofs.lemmas.Bool.{or_parts, and_parts, le-ltb}
use Rattle.std.proofs.lemmas.Bool.Decides.{nat_tests}
use Rattle.std.proofs.lemmas.List.{append-nil}
use Rattle.std.proofs.lemmas.List.Folds.{list_any-append}
use Rattle.std.proofs.lemmas.List.Sums.{sum_by-cons}
use Rattle.std.proofs.lemmas.Map.Keys.{IsDistinct-head, IsDistinct-tail}
use Rattle.std.proofs.lemmas.Slice.Eq.{bytes_eq-Decides}
use Rattle.sheet_types.specs.Custody.{is_used}
use Rattle.sheet_types.specs.Cut.{identities, has_end}
use Rattle.sheet_types.specs.Ordered.{has, is_among, is_before, put, without}
use Rattle.sheet_types.specs.Refuse.{bad_text, has_good_size, bad_place, out_of_frame, is_at, takes_place}
use Rattle.sheet_types.specs.Refuse.{is_overfull, greatest_items, greatest_links}
use Rattle.sheet_types.specs.Texts.{is_moment}
use Rattle.sheet_types.specs.World.{World, Package, item_key, link_key, kind_number, base_kind, other_kind, is_tile}
use Rattle.sheet_types.specs.World.{is_medium, is_row}
use Rattle.sheet_types.specs.declared.command.Command.{Command}
use Rattle.sheet_types.specs.declared.command.Command.TheVariants.{Add}
use Rattle.sheet_types.specs.declared.command.Content.{Content}
use Rattle.sheet_types.specs.declared.command.Content.TheVariants.{Tile, Media, Row}
use Rattle.sheet_types.specs.declared.command.Item.{Item}
use Rattle.sheet_types.specs.declared.command.Relation.{Relation}
use Rattle.sheet_types.specs.declared.command.Request.{Request}
use Rattle.sheet_types.proofs.Basics.{bytes_eq_swap, or-false, not_true}
use Rattle.sheet_types.proofs.Every.{All-both, All-of_map}
use Rattle.sheet_types.proofs.Found.{any_filter}
use Rattle.sheet_types.proofs.Order.{list_any-put, sum_by-put}
use Rattle.sheet_types.proofs.Sums.{filter_less}
use Rattle.sheet_types.proofs.Without.{is_one}
use Rattle.field_changes.specs.Asked.{unlinking, deleting, adding, linking}
use Rattle.field_changes.specs.Ids.{request_of}
use Rattle.field_run_laws.specs.Ready.{package_of, AreReady}
use Rattle.field_run_laws.proofs.Lists.{folded, all_put}
use Rattle.field_laws.specs.Checks.{is_fit, has_fit_place}

-- ---- limits

-- a package that holds this is within its limits
pub record Room (items : List Item) (links : List Relation) : Type 0 where
  pub tiles : count_by is_tile items ≤ greatest_items
  pub media : count_by is_medium items ≤ greatest_items
  pub rows : count_by is_row items ≤ greatest_items
  pub joins : length links ≤ greatest_links

or_false : (a b : Bool) → a ≡ false → b ≡ false → (a || b) ≡ false
or_false a b e f = ap (λ x. x || b) e ∙ f

pub room_within : (items : List Item) (links : List Relation) → Room items links
    → is_overfull (package_of items links) ≡ false
room_within items links r =
    let t = nat_lt greatest_items (count_by is_tile items) in
    let m = nat_lt greatest_items (count_by is_medium items) in
    let o = nat_lt greatest_items (count_by is_row items) in
    let l = nat_lt greatest_links (length links) in
    or_false (t || m || o) l (or_false (t || m) o (or_false t m
    (le-ltb greatest_items (count_by is_tile items) r.tiles)
    (le-ltb greatest_items (count_by is_medium items) r.media))
    (le-ltb greatest_items (count_by is_row items) r.rows)) (le-ltb greatest_links (length links) r.joins)

not_more : (a b : ℕ) → nat_lt a b ≡ false → b ≤ a
not_more a b h = grind (arith, nat_tests)

pub within_room : (x : Package) → is_overfull x ≡ false → Room x.items x.links
within_room x e =
    let t = nat_lt greatest_items (count_by is_tile x.items) in
    let m = nat_lt greatest_items (count_by is_medium x.items) in
    let o = nat_lt greatest_items (count_by is_row x.items) in
    let l = nat_lt greatest_links (length x.links) in
    let last = or_parts (t || m || o) l e in
    let third = or_parts (t || m) o last.0 in
    let two = or_parts t m third.0 in
    record {
      tiles = not_more greatest_items (count_by is_tile x.items) two.0;
      media = not_more greatest_items (count_by is_medium x.items) two.1;
      rows = not_more greatest_items (count_by is_row x.items) third.1;
      joins = not_more greatest_links (length x.links) last.1;
    }

pub filter_shorter : {X : Type 0} (t : X → Bool) (xs : List X) → length (filter t xs) ≤ length xs
filter_shorter t [] = omega arith
filter_shorter t (x ∷ xs) = elim (t x) as (λ v. length (cond v (x ∷ filter t xs) (filter t xs)) ≤ length
    (x ∷ xs)) [
      | true ↦ omega (arith, filter_shorter t xs)
      | false ↦ omega (arith, filter_shorter t xs)
    ]

-- fewer items, or fewer links, have room
fewer_items : (t : Item → Bool) (items : List Item) (links : List Relation) → Room items links
    → Room (filter t items) links
fewer_items t items links r = record {
  tiles = omega (arith, r.tiles, filter_less (λ i. cond (is_tile i) 1 0) t items);
  media = omega (arith, r.media, filter_less (λ i. cond (is_medium i) 1 0) t items);
  rows = omega (arith, r.rows, filter_less (λ i. cond (is_row i) 1 0) t items);
  joins = r.joins;
}

pub fewer_links : (u : Relation → Bool) (items : List Item) (links : List Relation) → Room items links
    → Room items (filter u links)
fewer_links u items links r = record {
  tiles = r.tiles;
  media = r.media;
  rows = r.rows;
  joins = omega (arith, r.joins, filter_shorter u links);
}

-- room for some more
pub record RoomFor (more items : List Item) (links : List Relation) : Type 0 where
  pub tiles : count_by is_tile more + count_by is_tile items ≤ greatest_items
  pub media : count_by is_medium more + count_by is_medium items ≤ greatest_items
  pub rows : count_by is_row more + count_by is_row items ≤ greatest_items
  pub joins : length links ≤ greatest_links

put_in : (a : Item) (more items : List Item) (links : List Relation) → RoomFor (a ∷ more) items links
    → RoomFor more (put item_key a items) links
put_in a more items links r =
    let t : Item → ℕ = λ i. cond (is_tile i) 1 0 in
    let m : Item → ℕ = λ i. cond (is_medium i) 1 0 in
    let o : Item → ℕ = λ i. cond (is_row i) 1 0 in
    record {
      tiles = omega (arith, r.tiles, sum_by-cons t a more, sum_by-put item_key t a items);
      media = omega (arith, r.media, sum_by-cons m a more, sum_by-put item_key m a items);
      rows = omega (arith, r.rows, sum_by-cons o a more, sum_by-put item_key o a items);
      joins = r.joins;
    }

room_now : (more items : List Item) (links : List Relation) → RoomFor more items links → Room items links
room_now more items links r = record {
  tiles = omega (arith, r.tiles);
  media = omega (arith, r.media);
  rows = omega (arith, r.rows);
  joins = r.joins;
}

put_longer : {X : Type 0} (key : X → List ℕ) (x : X) (xs : List X) → length (put key x xs) ≡ length xs + 1
put_longer key x [] = omega arith
put_longer key x (y ∷ ys) = elim (is_before (key y) (key x)) as
    (λ v. length (cond v (y ∷ put key x ys) (x ∷ y ∷ ys)) ≡ length (y ∷ ys) + 1) [
      | true ↦ omega (arith, put_longer key x ys)
      | false ↦ omega arith
    ]

-- ---- keys

-- another key is still there
still_has : {X : Type 0} (key : X → List ℕ) (k other : List ℕ) (xs : List X) → bytes_eq k other ≡ false
    → has key k xs ≡ true → has key k (without key (other ∷ []) xs) ≡ true
still_has key k other xs apart some = any_filter (λ x. bytes_eq (key x) k)
    (λ x. not (is_among (other ∷ []) (key x))) xs
    (λ x e. ap not (is_one key other x ∙ ap (λ z. bytes_eq z other) ((bytes_eq-Decides (key x) k).0 e) ∙ apart))
    some

-- and is not there, where it was not
still_lacks : {X : Type 0} (key : X → List ℕ) (k : List ℕ) (x : X) (xs : List X) → bytes_eq (key x) k ≡ false
    → has key k xs ≡ false → has key k (put key x xs) ≡ false
still_lacks key k x xs apart none = list_any-put key (λ y. bytes_eq (key y) k) x xs
    ∙ or_false (bytes_eq (key x) k) (has key k xs) apart none

-- ---- places and ends

-- the place of the second is not that of the first
abbrev pub AreApart : Item → Content → Type 0
AreApart i c = takes_place (package_of (i ∷ []) []) c ≡ false

abbrev pub HavePlaces : List Item → Type 0
HavePlaces [] = Unit {0}
HavePlaces (a ∷ as') = AllByRecursion (λ b. AreApart a b.content) as' × HavePlaces as'

still_free : (a : Item) (items : List Item) (links : List Relation) (c : Content) → AreApart a c
    → takes_place (package_of items links) c ≡ false → takes_place (package_of (put item_key a items) links) c
    ≡ false
still_free a items links (Tile zoom column row bytes) one more =
    list_any-put item_key (λ i. is_at zoom column row i.content) a items
    ∙ or_false (is_at zoom column row a.content) (list_any (λ i. is_at zoom column row i.content) items)
    (sym (or-false (is_at zoom column row a.content)) ∙ one) more
still_free a items links (Media content_type bytes) one more = refl
still_free a items links (Row x y code label) one more = refl

-- both ends are there
abbrev pub HasBoth : List Item → Relation → Type 0
HasBoth items l = (has item_key (kind_number (base_kind l.mapping) ∷ l.base) items ≡ true)
    × (has item_key (kind_number (other_kind l.mapping) ∷ l.other) items ≡ true)

module _ (w : World) (p : List ℕ) (ticket : ℕ) (moment : List ℕ) (timed : is_moment moment ≡ true) where
  abbrev of : Command → Request
  of = request_of p ticket moment

  -- ---- links end

  pub ready_unlinks : (us : List Relation) (since : List (List ℕ)) (items : List Item) (links : List Relation)
      (rest : List Request)
      → Room items links → AllByRecursion (λ l. has link_key (link_key l) links ≡ true) us
      → IsDistinct bytes_eq (map link_key us)
      → AreReady w since items (folded (λ l m. without link_key (link_key l ∷ []) m) us links) rest
      → AreReady w since items links (map of (map (unlinking p) us) ++ rest)
  ready_unlinks [] since items links rest room there apart behind = behind
  ready_unlinks (u ∷ us) since items links rest room there apart behind =
      let now : List Relation = without link_key (link_key u ∷ []) links in
      let less : Room items now = fewer_links (λ l. not (is_among (link_key u ∷ []) (link_key l))) items links
      room in
      let others : AllByRecursion (λ l. bytes_eq (link_key u) (link_key l) ≡ false) us =
      All-of_map (λ k. bytes_eq (link_key u) k ≡ false) link_key us
      (IsDistinct-head bytes_eq (link_key u) (map link_key us) apart) in
      let later : AllByRecursion (λ l. has link_key (link_key l) now ≡ true) us =
      All-both (λ l. has link_key (link_key l) links ≡ true) (λ l. bytes_eq (link_key u) (link_key l) ≡ false)
      (λ l. has link_key (link_key l) now ≡ true)
      (λ l some other. still_has link_key (link_key l) (link_key u) links
      (bytes_eq_swap (link_key l) (link_key u) ∙ other) some) us there.1 others in (
        timed,
        there.0,
        room_within items now less,
        subst (λ s. AreReady w s items now (map of (map (unlinking p) us) ++ rest)) (sym (append-nil since))
            (ready_unlinks us since items now rest less later
            (IsDistinct-tail bytes_eq (link_key u) (map link_key us) apart) behind),
      )

  -- ---- items go

  pub ready_deletes : (ds : List (List ℕ)) (since : List (List ℕ)) (items : List Item) (links : List Relation)
      (rest : List Request)
      → Room items links → AllByRecursion (λ d. has (λ i. i.identity) d items ≡ true) ds
      → AllByRecursion (λ d. list_any (has_end d) links ≡ false) ds → IsDistinct bytes_eq ds
      → AreReady w since (folded (λ d l. without (λ i. i.identity) (d ∷ []) l) ds items) links rest
      → AreReady w since items links (map of (map (deleting p) ds) ++ rest)
  ready_deletes [] since items links rest room there untied apart behind = behind
  ready_deletes (d ∷ ds) since items links rest room there untied apart behind =
      let now : List Item = without (λ i. i.identity) (d ∷ []) items in
      let less : Room now links = fewer_items (λ i. not (is_among (d ∷ []) i.identity)) items links room in
      let others : AllByRecursion (λ k. bytes_eq d k ≡ false) ds = IsDistinct-head bytes_eq d ds apart in
      let later : AllByRecursion (λ k. has (λ i. i.identity) k now ≡ true) ds =
      All-both (λ k. has (λ (i : Item). i.identity) k items ≡ true) (λ k. bytes_eq d k ≡ false)
      (λ k. has (λ (i : Item). i.identity) k now ≡ true)
      (λ k some other. still_has (λ i. i.identity) k d items (bytes_eq_swap k d ∙ other) some) ds there.1
      others in (
        timed,
        (there.0, untied.0),
        room_within now links less,
        subst (λ s. AreReady w s now links (map of (map (deleting p) ds) ++ rest)) (sym (append-nil since))
            (ready_deletes ds since now links rest less later untied.1 (IsDistinct-tail bytes_eq d ds apart) behind),
      )

  -- ---- items come

  same_text : (identity : List ℕ) (c : Content) → bad_text (Add [] [] c) ≡ false
      → bad_text (Add p identity c) ≡ false
  same_text identity (Tile zoom column row bytes) e = e
  same_text identity (Media content_type bytes) e = e
  same_text identity (Row x y code label) e = e

  good_place : (identity : List ℕ) (c : Content) → has_fit_place w.frame c ≡ true
      → bad_place w (Add p identity c) ≡ false
  good_place identity (Tile zoom column row bytes) e = ap not e
  good_place identity (Media content_type bytes) e = refl
  good_place identity (Row x y code label) e = refl

  good_ground : (identity : List ℕ) (c : Content) → has_fit_place w.frame c ≡ true
      → out_of_frame w (Add p identity c) ≡ false
  good_ground identity (Tile zoom column row bytes) e = refl
  good_ground identity (Media content_type bytes) e = refl
  good_ground identity (Row x y code label) e = ap not e

  pub ready_adds : (as' : List Item) (since : List (List ℕ)) (items : List Item) (links : List Relation)
      (rest : List Request)
      → RoomFor as' items links → AllByRecursion (λ a. is_fit w.frame a.content ≡ true) as'
      → AllByRecursion (λ a. is_used w a.identity ≡ false) as'
      → AllByRecursion (λ a. is_among since a.identity ≡ false) as' → IsDistinct bytes_eq (identities as')
      → AllByRecursion (λ a. takes_place (package_of items links) a.content ≡ false) as' → HavePlaces as'
      → ((later : List (List ℕ)) → AreReady w later (all_put item_key as' items) links rest)
      → AreReady w since items links (map of (map (adding p) as') ++ rest)
  ready_adds [] since items links rest room fit unused new apart free places behind = behind since
  ready_adds (a ∷ as') since items links rest room fit unused new apart free places behind =
      let now : List Item = put item_key a items in
      let less : RoomFor as' now links = put_in a as' items links room in
      let parts = and_parts (not (bad_text (Add [] [] a.content)) && has_good_size a.content)
      (has_fit_place w.frame a.content) fit.0 in
      let first = and_parts (not (bad_text (Add [] [] a.content))) (has_good_size a.content) parts.0 in
      let others : AllByRecursion (λ b. bytes_eq a.identity b.identity ≡ false) as' =
      All-of_map (λ k. bytes_eq a.identity k ≡ false) (λ i. i.identity) as'
      (IsDistinct-head bytes_eq a.identity (identities as') apart) in
      let new_later : AllByRecursion (λ b. is_among (since ++ a.identity ∷ []) b.identity ≡ false) as' =
      All-both (λ b. is_among since b.identity ≡ false) (λ b. bytes_eq a.identity b.identity ≡ false)
      (λ b. is_among (since ++ a.identity ∷ []) b.identity ≡ false)
      (λ b none other. list_any-append (λ x. bytes_eq x b.identity) since (a.identity ∷ [])
      ∙ or_false (is_among since b.identity) (bytes_eq a.identity b.identity || false) none
      (or-false (bytes_eq a.identity b.identity) ∙ other)) as' new.1 others in
      let free_later : AllByRecursion (λ b. takes_place (package_of now links) b.content ≡ false) as' =
      All-both (λ b. takes_place (package_of items links) b.content ≡ false) (λ b. AreApart a b.content)
      (λ b. takes_place (package_of now links) b.content ≡ false)
      (λ b none other. still_free a items links b.content other none) as' free.1 places.0 in (
        timed,
        (
          same_text a.identity a.content (not_true (bad_text (Add [] [] a.content)) first.0),
          first.1,
          good_place
              a.identity a.content parts.1,
          good_ground a.identity a.content parts.1,
          unused.0,
          new.0,
          free.0,
        ),
        room_within now links (room_now as' now links less),
        ready_adds as' (since ++ a.identity ∷ []) now links rest less fit.1 unused.1 new_later
            (IsDistinct-tail bytes_eq a.identity (identities as') apart) free_later places.1 behind,
      )

  -- ---- links come

  pub ready_links : (ls : List Relation) (since : List (List ℕ)) (items : List Item) (links : List Relation)
      → Room items links → length ls + length links ≤ greatest_links → AllByRecursion (HasBoth items) ls
      → AllByRecursion (λ l. has link_key (link_key l) links ≡ false) ls → IsDistinct bytes_eq (map link_key ls)
      → AreReady w since items links (map of (map (linking p) ls))
  ready_links [] since items links room few ends new apart = tt
  ready_links (l ∷ ls) since items links room few ends new apart =
      let now : List Relation = put link_key l links in
      let longer = put_longer link_key l links in
      let more : Room items now = record {
        tiles = room.tiles;
        media = room.media;
        rows = room.rows;
        joins = omega (arith, few, longer);
      } in
      let others : AllByRecursion (λ x. bytes_eq (link_key l) (link_key x) ≡ false) ls =
      All-of_map (λ k. bytes_eq (link_key l) k ≡ false) link_key ls
      (IsDistinct-head bytes_eq (link_key l) (map link_key ls) apart) in
      let later : AllByRecursion (λ x. has link_key (link_key x) now ≡ false) ls =
      All-both (λ x. has link_key (link_key x) links ≡ false)
      (λ x. bytes_eq (link_key l) (link_key x) ≡ false) (λ x. has link_key (link_key x) now ≡ false)
      (λ x none other. still_lacks link_key (link_key x) l links other none) ls new.1 others in (
        timed,
        (ends.0.0, ends.0.1, new.0),
        room_within items now more,
        subst (λ s. AreReady w s items now (map of (map (linking p) ls))) (sym (append-nil since))
            (ready_links ls since items now more (omega (arith, few, longer)) ends.1 later
            (IsDistinct-tail bytes_eq (link_key l) (map link_key ls) apart)),
      )
