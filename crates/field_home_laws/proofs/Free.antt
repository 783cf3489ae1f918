-- Requests that are free by themselves are free in their four parts, so a file comes home.
use Rattle.std.specs.Prelude.{◌≡◌, ◌≤◌, ◌+◌, ◌-◌, ◌&&◌, ℕ, Bool, true, false, cond, not}
use Rattle.std.specs.Prelude.{nat_le, List, [], ◌∷◌, ◌++◌}
use Rattle.std.specs.Prelude.{map, filter, flat_map, length, bytes_eq, count_by, sum_by, if◌then◌else◌, refl}
use Rattle.std.proofs.Common.{sym, ap, subst, ◌∙◌, inl, inr, arith, length-append}
use Rattle.std.specs.List.{list_any, AllByRecursion}
use Rattle.std.proofs.lemmas.Bool.{true≢false, and_parts, leb-true}
use Rattle.std.proofs.lemmas.Grind.{flat_map-append}
use Rattle.std.proofs.lemmas.List.{append-nil}
use Rattle.std.proofs.lemmas.List.Concat.{flat_map_single, flat_map-cons}
use Rattle.std.proofs.lemmas.List.Sums.{sum_by-append}
use Rattle.std.proofs.lemmas.Slice.Eq.{bytes_eq-Decides}
use Rattle.sheet_types.specs.Cut.{identities}
use Rattle.sheet_types.specs.Custody.{is_used}
use Rattle.sheet_types.specs.Ordered.{has, is_among}
use Rattle.sheet_types.specs.Refuse.{greatest_items, greatest_links, greatest_receipts, identity_used, is_overfull}
use Rattle.sheet_types.specs.Refuse.{too_many}
use Rattle.sheet_types.specs.Register.{IsRegister}
use Rattle.sheet_types.specs.Step.{Run}
use Rattle.sheet_types.specs.Texts.{kind_of}
use Rattle.sheet_types.specs.World.{World, Package, is_live, holdings, kind_is, link_key, receipts_of}
use Rattle.sheet_types.specs.declared.command.Command.{Command}
use Rattle.sheet_types.specs.declared.command.Item.{Item}
use Rattle.sheet_types.specs.declared.command.Relation.{Relation}
use Rattle.sheet_types.specs.declared.command.Request.{Request}
use Rattle.sheet_types.specs.declared.receipt.MovedKind.{MovedKind}
use Rattle.sheet_types.specs.declared.receipt.MovedKind.TheVariants.{TileItem, MediaItem, RowItem}
use Rattle.sheet_types.proofs.Basics.{bytes_eq_itself, not_true}
use Rattle.sheet_types.proofs.Every.{All-each, All-left, All-of_map, All-right, none_any, none_pass}
use Rattle.sheet_types.proofs.Same.{In, In-all, All-In, In-filter, In-map, In-of_map, any_at, any_in}
use Rattle.sheet_types.proofs.Sums.{count_none, length_sum, sum_by-filter, sum_by-map, sum_by-parts, sum_by-same}
use Rattle.field_changes.specs.Asked.{adding, commands, deleting, linking, unlinking}
use Rattle.field_changes.specs.Ids.{request_of}
use Rattle.field_changes.specs.Parts.{beyond}
use Rattle.field_changes.specs.declared.held.Held.{Held}
use Rattle.field_run_laws.specs.Lists.{Reply, AreGiven, AreNew, has_twice}
use Rattle.field_run_laws.specs.Ready.{added}
use Rattle.field_run_laws.proofs.Lists.{of_filter}
use Rattle.field_laws.specs.Making.{after_parts, items_left, links_left}
use Rattle.field_laws.proofs.Makes.{changes_make, more_adds}
use Rattle.field_laws.proofs.Turns.{Room, room_within}
use Rattle.field_home_laws.specs.Free.{adds_kind, deleted, ids_added, ids_deleted, is_linking, is_unlinking}
use Rattle.field_home_laws.specs.Free.{items_behind, keeps_limits, keeps_package, links_behind, stays}
use Rattle.field_home_laws.specs.Free.{FreeFileComesHome, FreeListIsFree, IsEmptyOrFree, IsFreeList}
use Rattle.field_home_laws.specs.Laws.{ChangesOf, HoldsFile}
use Rattle.field_home_laws.proofs.Home.{fit_file_comes_home}

-- ---- lists in a row

flat_over : {X Y Z : Type 0} (f : Y → List Z) (r : X → Y) (xs : List X)
    → flat_map f (map r xs) ≡ flat_map (λ x. f (r x)) xs
flat_over f r [] = refl
flat_over f r (x ∷ xs) =
    flat_map-cons f (r x) (map r xs) ∙ ap (λ l. f (r x) ++ l) (flat_over f r xs)
    ∙ sym (flat_map-cons (λ y. f (r y)) x xs)

flat_none : {X Z : Type 0} (xs : List X) → flat_map (λ (x : X). (λ (z : List Z). z) []) xs ≡ []
flat_none [] = refl
flat_none {X} {Z} (x ∷ xs) = flat_map-cons (λ (y : X). (λ (z : List Z). z) []) x xs ∙ flat_none xs

map_itself : {X : Type 0} (xs : List X) → map (λ x. x) xs ≡ xs
map_itself [] = refl
map_itself (x ∷ xs) = ap (λ l. x ∷ l) (map_itself xs)

-- ---- the four parts

module _ (p : List ℕ) (n : ℕ) (moment : List ℕ) (us : List Relation) (ds : List (List ℕ)) (as' : List Item)
    (ls : List Relation) where
  abbrev asked : List Command
  asked = map (unlinking p) us ++ map (deleting p) ds ++ map (adding p) as' ++ map (linking p) ls

  abbrev sent : List Request
  sent = map (request_of p n moment) asked

  -- how many of them pass a test
  counted : (t : Command → Bool) → count_by (λ q. t q.command) sent
      ≡ count_by (λ l. t (unlinking p l)) us + count_by (λ d. t (deleting p d)) ds
      + count_by (λ a. t (adding p a)) as' + count_by (λ l. t (linking p l)) ls
  counted t =
      let f : Command → ℕ = λ c. cond (t c) 1 0 in
      sum_by-map (λ q. cond (t q.command) 1 0) (request_of p n moment) asked
      ∙ sum_by-append f (map (unlinking p) us ++ map (deleting p) ds ++ map (adding p) as') (map (linking p) ls)
      ∙ ap (λ k. k + sum_by f (map (linking p) ls))
      (sum_by-append f (map (unlinking p) us ++ map (deleting p) ds) (map (adding p) as')
      ∙ ap (λ k. k + sum_by f (map (adding p) as'))
      (sum_by-append f (map (unlinking p) us) (map (deleting p) ds)
      ∙ ap (λ k. k + sum_by f (map (deleting p) ds)) (sum_by-map f (unlinking p) us)
      ∙ ap (λ k. sum_by (λ l. f (unlinking p l)) us + k) (sum_by-map f (deleting p) ds))
      ∙ ap (λ k. sum_by (λ l. f (unlinking p l)) us + sum_by (λ d. f (deleting p d)) ds + k)
      (sum_by-map f (adding p) as'))
      ∙ ap (λ k. sum_by (λ l. f (unlinking p l)) us + sum_by (λ d. f (deleting p d)) ds
      + sum_by (λ a. f (adding p a)) as' + k) (sum_by-map f (linking p) ls)

  none_of : {X : Type 0} (t : X → Bool) → ((x : X) → t x ≡ false) → (xs : List X) → count_by t xs ≡ 0
  none_of t so xs = count_none t xs (All-each (λ x. t x ≡ false) so xs)

  adds_counted : (kind : MovedKind) → count_by (λ q. adds_kind kind q.command) sent
      ≡ count_by (λ (i : Item). kind_is kind (kind_of i.content)) as'
  adds_counted kind = omega (
    arith,
    counted (adds_kind kind),
    none_of (λ l. adds_kind kind (unlinking p l)) (λ l. refl) us,
    none_of (λ d. adds_kind kind (deleting p d)) (λ d. refl) ds,
    none_of (λ l. adds_kind kind (linking p l)) (λ l. refl) ls,
  )

  one_each : {X : Type 0} (xs : List X) → count_by (λ x. true) xs ≡ length xs
  one_each xs = length_sum (λ x. 1) (λ x. refl) xs

  links_counted : count_by (λ q. is_linking q.command) sent ≡ length ls
  links_counted = omega (
    arith,
    counted is_linking,
    none_of (λ l. is_linking (unlinking p l)) (λ l. refl) us,
    none_of (λ d. is_linking (deleting p d)) (λ d. refl) ds,
    none_of (λ a. is_linking (adding p a)) (λ a. refl) as',
    one_each ls,
  )

  unlinks_counted : count_by (λ q. is_unlinking q.command) sent ≡ length us
  unlinks_counted = omega (
    arith,
    counted is_unlinking,
    none_of (λ d. is_unlinking (deleting p d)) (λ d. refl) ds,
    none_of (λ a. is_unlinking (adding p a)) (λ a. refl) as',
    none_of (λ l. is_unlinking (linking p l)) (λ l. refl) ls,
    one_each us,
  )

  -- what they name, in a row
  rowed : (f : Command → List (List ℕ)) → flat_map (λ q. f q.command) sent
      ≡ flat_map (λ l. f (unlinking p l)) us ++ flat_map (λ d. f (deleting p d)) ds
      ++ flat_map (λ a. f (adding p a)) as' ++ flat_map (λ l. f (linking p l)) ls
  rowed f =
      flat_over (λ q. f q.command) (request_of p n moment) asked
      ∙ flat_map-append f (map (unlinking p) us ++ map (deleting p) ds ++ map (adding p) as') (map (linking p) ls)
      ∙ ap (λ k. k ++ flat_map f (map (linking p) ls))
      (flat_map-append f (map (unlinking p) us ++ map (deleting p) ds) (map (adding p) as')
      ∙ ap (λ k. k ++ flat_map f (map (adding p) as'))
      (flat_map-append f (map (unlinking p) us) (map (deleting p) ds)
      ∙ ap (λ k. k ++ flat_map f (map (deleting p) ds)) (flat_over f (unlinking p) us)
      ∙ ap (λ k. flat_map (λ l. f (unlinking p l)) us ++ k) (flat_over f (deleting p) ds))
      ∙ ap (λ k. flat_map (λ l. f (unlinking p l)) us ++ flat_map (λ d. f (deleting p d)) ds ++ k)
      (flat_over f (adding p) as'))
      ∙ ap (λ k. flat_map (λ l. f (unlinking p l)) us ++ flat_map (λ d. f (deleting p d)) ds
      ++ flat_map (λ a. f (adding p a)) as' ++ k) (flat_over f (linking p) ls)

  added_are : ids_added sent ≡ identities as'
  added_are =
      rowed added
      ∙ ap (λ k. k ++ flat_map (λ d. added (deleting p d)) ds ++ flat_map (λ a. added (adding p a)) as'
      ++ flat_map (λ l. added (linking p l)) ls) (flat_none us)
      ∙ ap (λ k. [] ++ k ++ flat_map (λ a. added (adding p a)) as' ++ flat_map (λ l. added (linking p l)) ls)
      (flat_none ds)
      ∙ ap (λ k. [] ++ [] ++ k ++ flat_map (λ l. added (linking p l)) ls)
      (flat_map_single (λ (a : Item). a.identity) as')
      ∙ ap (λ k. identities as' ++ k) (flat_none ls) ∙ append-nil (identities as')

  deleted_are : ids_deleted sent ≡ ds
  deleted_are =
      rowed deleted
      ∙ ap (λ k. k ++ flat_map (λ d. deleted (deleting p d)) ds ++ flat_map (λ a. deleted (adding p a)) as'
      ++ flat_map (λ l. deleted (linking p l)) ls) (flat_none us)
      ∙ ap (λ k. [] ++ k ++ flat_map (λ a. deleted (adding p a)) as' ++ flat_map (λ l. deleted (linking p l)) ls)
      (flat_map_single (λ (d : List ℕ). d) ds ∙ map_itself ds)
      ∙ ap (λ k. ds ++ k ++ flat_map (λ l. deleted (linking p l)) ls) (flat_none as')
      ∙ ap (λ k. k ++ flat_map (λ l. deleted (linking p l)) ls) (append-nil ds)
      ∙ ap (λ k. ds ++ k) (flat_none ls) ∙ append-nil ds

  -- what all keep, each addition keeps
  adds_all : (P : Request → Type 0) → AllByRecursion P sent
      → AllByRecursion (λ a. P (request_of p n moment (adding p a))) as'
  adds_all P each =
      let front : List Command = map (unlinking p) us ++ map (deleting p) ds in
      let Q : Command → Type 0 = λ c. P (request_of p n moment c) in
      let of : AllByRecursion Q asked = All-of_map P (request_of p n moment) asked each in
      All-of_map Q (adding p) as'
      (All-right Q front (map (adding p) as') (All-left Q (front ++ map (adding p) as') (map (linking p) ls) of))

  unused_are : (w : World) → list_any (λ q. identity_used w q.command) sent ≡ false
      → list_any (λ (i : Item). is_used w i.identity) as' ≡ false
  unused_are w none =
      none_any (λ (i : Item). is_used w i.identity) as'
      (adds_all (λ q. identity_used w q.command ≡ false) (none_pass (λ q. identity_used w q.command) sent none))

-- ---- what is left

both_tests : (a b : Bool) → ◌≡◌ {A = ℕ} (cond b (cond a 1 0) 0) (cond (a && b) 1 0)
both_tests true true = refl
both_tests true false = refl
both_tests false true = refl
both_tests false false = refl

module _ (kind : MovedKind) (gone : List (List ℕ)) where
  abbrev of_kind : Item → Bool
  of_kind i = kind_is kind (kind_of i.content)

  stays_counted : (items : List Item)
      → count_by of_kind (filter (λ i. not (is_among gone i.identity)) items) ≡ count_by (stays kind gone) items
  stays_counted items =
      sum_by-filter (λ i. cond (of_kind i) 1 0) (λ i. not (is_among gone i.identity)) items
      ∙ sum_by-same (λ i. cond (not (is_among gone i.identity)) (cond (of_kind i) 1 0) 0)
      (λ i. cond (stays kind gone i) 1 0) (λ i. both_tests (of_kind i) (not (is_among gone i.identity))) items

-- Links that a test of their keys passes, and those whose keys are none of theirs.
module _ (t : List ℕ → Bool) (links : List Relation) where
  abbrev passes : Relation → Bool
  passes l = t (link_key l)

  abbrev keys : List (List ℕ)
  keys = map link_key (filter passes links)

  true_by : (l : Relation) → In l links → t (link_key l) ≡ true → is_among keys (link_key l) ≡ true
  true_by l there passed =
      any_in (λ x. bytes_eq x (link_key l)) (link_key l) keys
      (In-map link_key l (filter passes links) (In-filter passes l links there passed)) (bytes_eq_itself (link_key l))

  so_passed : (l : Relation) → is_among keys (link_key l) ≡ true → t (link_key l) ≡ true
  so_passed l e =
      let one = any_at (λ x. bytes_eq x (link_key l)) keys e in
      let from = In-of_map link_key one.0 (filter passes links) one.1 in
      let passed = of_filter passes from.0 links from.1 in
      let same : one.0 ≡ link_key l = (bytes_eq-Decides one.0 (link_key l)).0 one.2 in
      sym (ap t (from.2 ∙ same)) ∙ passed.1

  one_test : (l : Relation) → In l links → is_among keys (link_key l) ≡ t (link_key l)
  one_test l there = elim (t (link_key l)) as (λ v. t (link_key l) ≡ v → is_among keys (link_key l) ≡ v) [
    | true ↦ λ e. true_by l there e
    | false ↦ λ e. false_by l e (is_among keys (link_key l)) refl
  ] refl
    where
      false_by : (l : Relation) → t (link_key l) ≡ false → (v : Bool) → is_among keys (link_key l) ≡ v
          → is_among keys (link_key l) ≡ false
      false_by l e true is = absurd (true≢false (sym (so_passed l is) ∙ e))
      false_by l e false is = is

  same_filter : (xs : List Relation) → AllByRecursion (λ l. In l links) xs
      → filter (λ l. not (is_among keys (link_key l))) xs ≡ filter (λ l. not (passes l)) xs
  same_filter [] each = refl
  same_filter (x ∷ xs) each =
      ap (λ b. cond (not b) (x ∷ filter (λ l. not (is_among keys (link_key l))) xs)
      (filter (λ l. not (is_among keys (link_key l))) xs)) (one_test x each.0)
      ∙ ap (λ l. cond (not (passes x)) (x ∷ l) l) (same_filter xs each.1)

  left_length : length (filter (λ l. not (is_among keys (link_key l))) links) + length (filter passes links)
      ≡ length links
  left_length =
      let f : Relation → ℕ = λ l. 1 in
      let long : (xs : List Relation) → sum_by f xs ≡ length xs = λ xs. length_sum f (λ l. refl) xs in
      let left = filter (λ l. not (passes l)) links in
      omega (
        arith,
        ap length (same_filter links (In-all links)),
        long left,
        long (filter passes links),
        long links,
        sum_by-parts f passes links,
      )

filter_none : (links : List Relation) → filter (λ l. false) links ≡ []
filter_none [] = refl
filter_none (l ∷ links) = filter_none links

-- the links that are taken away are told by their keys
by_keys : (more : Bool) (us others links : List Relation) → us ≡ (if more then [] else beyond others links)
    → (t : List ℕ → Bool) × (us ≡ filter (λ l. t (link_key l)) links)
by_keys true us others links e = (λ k. false, e ∙ sym (filter_none links))
by_keys false us others links e = (λ k. not (has link_key k others), e)

-- ---- both

module _ (w : World) (p : List ℕ) (n : ℕ) (moment : List ℕ) (more : Bool) (h : Held) (requests : List Request)
    (changes : ChangesOf w p n moment more h requests)
    (free : IsFreeList w (holdings w p).items (holdings w p).links requests) where
  abbrev here : Package
  here = holdings w p

  abbrev us : List Relation
  us = changes.parts.unlinks.items

  abbrev ds : List (List ℕ)
  ds = changes.parts.deletes.items

  abbrev as' : List Item
  as' = changes.parts.adds.items

  abbrev ls : List Relation
  ls = changes.parts.links.items

  abbrev made : List Request
  made = sent p n moment us ds as' ls

  named : requests ≡ made
  named = changes.asked

  world_part : (not (too_many w) ≡ true) × (nat_le (length (receipts_of w) + length requests) greatest_receipts
      ≡ true)
      × (keeps_package requests here.items here.links ≡ true)
  world_part =
      let last = and_parts (not (too_many w) && nat_le (length (receipts_of w) + length requests) greatest_receipts)
      (keeps_package requests here.items here.links) free.limits in
      let first = and_parts (not (too_many w)) (nat_le (length (receipts_of w) + length requests) greatest_receipts)
      last.0 in
      (first.0, first.1, last.1)

  kind_room : (kind : MovedKind) → items_behind kind made here.items ≤ greatest_items
      → count_by (λ (i : Item). kind_is kind (kind_of i.content)) (as' ++ items_left changes.parts here.items)
      ≤ greatest_items
  kind_room kind low =
      let t : Item → Bool = λ i. kind_is kind (kind_of i.content) in
      let left : List Item = items_left changes.parts here.items in
      let gone : count_by (stays kind (ids_deleted made)) here.items ≡ count_by (stays kind ds) here.items =
      ap (λ ids. count_by (stays kind ids) here.items) (deleted_are p n moment us ds as' ls) in
      omega (
        arith,
        low,
        sum_by-append (λ i. cond (t i) 1 0) as' left,
        adds_counted p n moment us ds as' ls kind,
        gone,
        stays_counted kind ds here.items,
      )

  links_room : links_behind made here.links ≤ greatest_links
      → length (ls ++ links_left changes.parts here.links) ≤ greatest_links
  links_room low =
      let taken = by_keys more us changes.for_file.file_links here.links changes.for_file.unlinks in
      let left : length (links_left changes.parts here.links) + length us ≡ length here.links =
      subst (λ (xs : List Relation). length (filter (λ l. not (is_among (map link_key xs) (link_key l))) here.links)
      + length xs ≡ length here.links) (sym taken.1) (left_length taken.0 here.links) in
      omega (
        arith,
        low,
        length-append ls (links_left changes.parts here.links),
        links_counted p n moment us ds as' ls,
        unlinks_counted p n moment us ds as' ls,
        left,
      )

  package_room : is_overfull (after_parts changes.parts here) ≡ false
  package_room =
      let parts : keeps_package made here.items here.links ≡ true =
      subst (λ qs. keeps_package qs here.items here.links ≡ true) named world_part.2 in
      let tiles = items_behind TileItem made here.items in
      let media = items_behind MediaItem made here.items in
      let rows = items_behind RowItem made here.items in
      let last = and_parts (nat_le tiles greatest_items && nat_le media greatest_items && nat_le rows greatest_items)
      (nat_le (links_behind made here.links) greatest_links) parts in
      let third = and_parts (nat_le tiles greatest_items && nat_le media greatest_items) (nat_le rows greatest_items)
      last.0 in
      let first = and_parts (nat_le tiles greatest_items) (nat_le media greatest_items) third.0 in
      room_within (as' ++ items_left changes.parts here.items) (ls ++ links_left changes.parts here.links) (record {
        tiles = kind_room TileItem (leb-true tiles greatest_items first.0);
        media = kind_room MediaItem (leb-true media greatest_items first.1);
        rows = kind_room RowItem (leb-true rows greatest_items third.1);
        joins = links_room (leb-true (links_behind made here.links) greatest_links last.1);
      })

pub free_list_is_free : FreeListIsFree
free_list_is_free w p n moment more h requests changes free =
    let us = changes.parts.unlinks.items in
    let ds = changes.parts.deletes.items in
    let adds = changes.parts.adds.items in
    let ls = changes.parts.links.items in
    let limits = world_part w p n moment more h requests changes free in
    record {
      unused = unused_are p n moment us ds adds ls w
          (subst (λ qs. list_any (λ q. identity_used w q.command) qs ≡ false) changes.asked free.unused);
      identities_apart = subst (λ ids. has_twice ids ≡ false) (added_are p n moment us ds adds ls)
          (subst (λ qs. has_twice (ids_added qs) ≡ false) changes.asked free.identities_apart);
      requests_new = record { unkept = free.unkept; apart = free.requests_apart };
      within_limits = not_true (too_many w) limits.0;
      ledger_within = leb-true (length (receipts_of w) + length requests) greatest_receipts limits.1;
      package_within = package_room w p n moment more h requests changes free;
    }

-- ---- home

none_given : (w next : World) (requests : List Request) (replies : List Reply) → requests ≡ []
    → Run w requests replies next → AreGiven replies
none_given w next [] [] none run = tt
none_given w next [] (r ∷ replies) none run = absurd run
none_given w next (q ∷ requests) replies none run = let wrong : q ∷ requests ≡ [] = none in absurd (cc)

none_new : (w : World) (requests : List Request) → requests ≡ [] → AreNew w requests
none_new w requests none = subst (AreNew w) (sym none) (record { unkept = refl; apart = refl })

-- where nothing is asked for, the package holds what the file has
empty_holds : (more : Bool) (w : World) (p : List ℕ) (n : ℕ) (moment : List ℕ) (h : Held)
    (requests : List Request)
    (replies : List Reply) (next : World) → IsRegister w → is_live w p ≡ true
    → (changes : ChangesOf w p n moment more h requests) → AreNew w requests → Run w requests replies next
    → AreGiven replies → HoldsFile w next p n moment more h requests changes
empty_holds true w p n moment h = more_adds w p n moment h.items.items h.links.items
empty_holds false w p n moment h = changes_make w p n moment h.items.items h.links.items

pub free_file_comes_home : FreeFileComesHome
free_file_comes_home w p n moment more h requests replies next register live timed none changes (inl empty) run sound =
    let given = none_given w next requests replies empty run in (
      given,
      empty_holds more w p n moment h requests replies next register live changes (none_new w requests empty) run given,
    )
free_file_comes_home w p n moment more h requests replies next register live timed none changes (inr free) run sound =
    fit_file_comes_home w p n moment more h requests replies next register live timed none changes
    (free_list_is_free w p n moment more h requests changes free) run sound
