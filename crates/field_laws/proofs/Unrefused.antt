-- No request for a file that a package can take is refused.
use Rattle.std.specs.Prelude.{◌≡◌, ◌≤◌, ℕ, ℤ, Bool, true, false, cond, not, ◌&&◌, ◌||◌}
use Rattle.std.specs.Prelude.{int_le, List, [], ◌∷◌, ◌++◌}
use Rattle.std.specs.Prelude.{map, filter, bytes_eq, count_by, unsigned_abs, refl}
use Rattle.std.proofs.Common.{sym, ap, subst, ◌∙◌, inl, inr, arith, append_assoc}
use Rattle.std.specs.List.{list_any, list_all, AllByRecursion, AllZip, IsDistinct}
use Rattle.std.proofs.lemmas.Bool.{true≢false, false≢true, or_parts, and_parts}
use Rattle.std.proofs.lemmas.Int.{ints}
use Rattle.std.proofs.lemmas.List.{length-append}
use Rattle.std.proofs.lemmas.List.Sorted.{IsPermutation-sym}
use Rattle.std.proofs.lemmas.List.Sums.{sum_by-append}
use Rattle.std.proofs.lemmas.Map.Keys.{IsDistinct-head, IsDistinct-tail}
use Rattle.std.proofs.lemmas.Slice.Eq.{bytes_eq-Decides}
use Rattle.sheet_types.specs.Balance.{names_as}
use Rattle.sheet_types.specs.Custody.{is_add, is_used}
use Rattle.sheet_types.specs.Cut.{identities, has_end}
use Rattle.sheet_types.specs.Matrix.{is_within}
use Rattle.sheet_types.specs.Ordered.{has, is_among, without, IsArranged}
use Rattle.sheet_types.specs.Refuse.{is_at, takes_place, place_of, is_overfull}
use Rattle.sheet_types.specs.Register.{IsRegister, IsKeptPackage}
use Rattle.sheet_types.specs.Texts.{kind_of}
use Rattle.sheet_types.specs.World.{World, Package, is_live, holdings, receipts_of, item_key, link_key, kind_number}
use Rattle.sheet_types.specs.World.{base_kind, other_kind, is_tile, is_medium, is_row, kind_is}
use Rattle.sheet_types.specs.declared.command.Content.{Content}
use Rattle.sheet_types.specs.declared.command.Content.TheVariants.{Tile, Media, Row}
use Rattle.sheet_types.specs.declared.command.Item.{Item}
use Rattle.sheet_types.specs.declared.command.Relation.{Relation}
use Rattle.sheet_types.specs.declared.command.Request.{Request}
use Rattle.sheet_types.specs.declared.frame.Frame.{Frame}
use Rattle.sheet_types.specs.declared.receipt.MovedKind.{MovedKind}
use Rattle.sheet_types.specs.declared.receipt.MovedKind.TheVariants.{TileItem}
use Rattle.sheet_types.proofs.Basics.{bytes_eq_itself, or-false, not_true}
use Rattle.sheet_types.proofs.Distinct.{distinct_counts, counts_distinct}
use Rattle.sheet_types.proofs.Every.{All-weaker, All-append, All-filter, none_pass, none_any}
use Rattle.sheet_types.proofs.Found.{any_implies}
use Rattle.sheet_types.proofs.Order.{counts_arranged, filter_arranged}
use Rattle.sheet_types.proofs.Same.{In, In-all, All-In, In-filter, In-map, In-of_map, In-append, any_in, any_at}
use Rattle.sheet_types.proofs.Same.{two_are_one}
use Rattle.sheet_types.proofs.Sums.{filter_less}
use Rattle.sheet_laws.proofs.Contents.{IsUnaltered, each_unaltered}
use Rattle.sheet_laws.proofs.Packages.{at_all}
use Rattle.field_changes.specs.Asked.{unlinking, deleting, adding, linking}
use Rattle.field_changes.specs.Ids.{request_of}
use Rattle.field_changes.specs.Naming.{names_behind, name_of, known_as}
use Rattle.field_changes.specs.Parts.{gone, new_item, new_items, beyond}
use Rattle.field_changes.specs.declared.held.HeldItem.{HeldItem}
use Rattle.field_changes.specs.declared.held.HeldLink.{HeldLink}
use Rattle.field_changes.specs.declared.naming.Name.{Name}
use Rattle.field_changes.specs.declared.naming.Name.TheVariants.{Old, New}
use Rattle.field_changes.specs.declared.naming.Named.{Named}
use Rattle.field_run_laws.specs.Ready.{package_of, AreReady}
use Rattle.field_run_laws.proofs.Keys.{are_distinct}
use Rattle.field_run_laws.proofs.Lists.{moved, of_filter, folded_without, all_put, into_put, sum_put}
use Rattle.field_run_laws.proofs.Ready.{ready_run_is_unrefused}
use Rattle.field_laws.specs.Changing.{Changes, names_in, NothingIsRefused}
use Rattle.field_laws.specs.Checks.{is_fit, tile_places, CanTake}
use Rattle.field_laws.specs.Laws.{HoldsUnder}
use Rattle.field_laws.specs.Making.{named_items, items_left, links_left, after_parts}
use Rattle.field_laws.proofs.Made as made
use Rattle.field_laws.proofs.Made.{EndNamed, LinkNamed, JoinsUuids, same_link}
use Rattle.field_laws.proofs.Makes as makes
use Rattle.field_laws.proofs.Makes.{old_stands, all_moved}
use Rattle.field_laws.proofs.Turns.{Room, RoomFor, within_room, fewer_links, AreApart, HavePlaces, HasBoth}
use Rattle.field_laws.proofs.Turns.{ready_unlinks, ready_deletes, ready_adds, ready_links}

-- ---- names, with what stands under them

-- what stands beside a name, and under it
record At (R : HeldItem → Named → Type 0) (ns : List Named) (hs : List HeldItem) (n : Named) : Type 0 where
  pub beside : HeldItem
  pub fits : R beside n
  pub named : In (record { identity = n.identity; content = beside.content }) (named_items ns hs)
  pub new : n.is_new ≡ true → In (record { identity = n.identity; content = beside.content }) (new_items ns hs)

at_name : (R : HeldItem → Named → Type 0) (hs : List HeldItem) (ns : List Named) (n : Named) → AllZip R hs ns
    → In n ns → At R ns hs n
at_name R [] [] n all i = absurd i
at_name R [] (m ∷ ms) n all i = absurd all
at_name R (h ∷ hs) [] n all i = absurd all
at_name R (h ∷ hs) (m ∷ ms) n all i = elim i [
  | inl e ↦ subst (At R (m ∷ ms) (h ∷ hs)) e (record {
    beside = h;
    fits = all.0;
    named = inl refl;
    new = λ is. In-append (record { identity = m.identity; content = h.content }) (new_item m h) (new_items ms hs)
        (inl (subst (λ v. In {X = Item} (record { identity = m.identity; content = h.content })
        (cond v (record { identity = m.identity; content = h.content } ∷ []) [])) (sym is) (inl refl)));
  })
  | inr later ↦
      let it = at_name R hs ms n all.1 later in
      record {
        beside = it.beside;
        fits = it.fits;
        named = inr it.named;
        new = λ is. In-append (record { identity = n.identity; content = it.beside.content }) (new_item m h)
            (new_items ms hs) (inr (it.new is));
      }
]

abbrev OfKind : HeldItem → Named → Type 0
OfKind h n = n.kind ≡ kind_of h.content

kinds_named : (p : List ℕ) (n : ℕ) (items : List Item) (file before hs : List HeldItem)
    → AllZip OfKind hs (names_behind p n items file before hs)
kinds_named p n items file before [] = tt
kinds_named p n items file before (h ∷ hs) = (
  one (name_of items file before h),
  kinds_named p n items file
      (before ++ h ∷ []) hs,
)
  where
    one : (x : Name) → (known_as p n h x).kind ≡ kind_of h.content
    one (Old id) = refl
    one (New copy) = refl

zip_both : {A B : Type 0} (R S : A → B → Type 0) (xs : List A) (ys : List B) → AllZip R xs ys → AllZip S xs ys
    → AllZip (λ x y. R x y × S x y) xs ys
zip_both R S [] [] a b = tt
zip_both R S [] (y ∷ ys) a b = absurd a
zip_both R S (x ∷ xs) [] a b = absurd a
zip_both R S (x ∷ xs) (y ∷ ys) a b = ((a.0, b.0), zip_both R S xs ys a.1 b.1)

-- ---- places

same_within : (a z : ℤ) → is_within a a z ≡ true → z ≡ a
same_within a z h =
    let parts = and_parts (int_le a z) (int_le z a) h in
    omega (arith, ints, parts.0, parts.1)

at_is : (zoom column row : ℤ) (d : Content) → is_at zoom column row d ≡ true
    → (kind_is TileItem (kind_of d) ≡ true)
    × (place_of d ≡ unsigned_abs zoom ∷ unsigned_abs column ∷ unsigned_abs row ∷ [])
at_is zoom column row (Tile z c r bytes) h =
    let last = and_parts (is_within zoom zoom z && is_within column column c) (is_within row row r) h in
    let two = and_parts (is_within zoom zoom z) (is_within column column c) last.0 in (
      refl,
      ap (λ v. unsigned_abs v ∷ unsigned_abs c ∷ unsigned_abs r ∷ []) (same_within zoom z two.0)
          ∙ ap (λ v. unsigned_abs zoom ∷ unsigned_abs v ∷ unsigned_abs r ∷ []) (same_within column c two.1)
          ∙ ap (λ v. unsigned_abs zoom ∷ unsigned_abs column ∷ unsigned_abs v ∷ []) (same_within row r last.1),
    )
at_is zoom column row (Media content_type bytes) h = absurd (false≢true h)
at_is zoom column row (Row x y code label) h = absurd (false≢true h)

-- two tiles of one place
meet : (i : Item) (c : Content) → takes_place (package_of (i ∷ []) []) c ≡ true → (is_tile i ≡ true)
    × (kind_is TileItem (kind_of c) ≡ true) × (place_of i.content ≡ place_of c)
meet i (Tile zoom column row bytes) h =
    let it = at_is zoom column row i.content (sym (or-false (is_at zoom column row i.content)) ∙ h) in
    (it.0, refl, it.1)
meet i (Media content_type bytes) h = absurd (false≢true h)
meet i (Row x y code label) h = absurd (false≢true h)

-- the tile that takes a place, and a place that a tile takes
takes_one : (c : Content) (items : List Item) (links : List Relation)
    → takes_place (package_of items links) c ≡ true
    → (i : Item) × In i items × (takes_place (package_of (i ∷ []) []) c ≡ true)
takes_one (Tile zoom column row bytes) items links h =
    let it = any_at (λ i. is_at zoom column row i.content) items h in
    (it.0, it.1, or-false (is_at zoom column row it.0.content) ∙ it.2)
takes_one (Media content_type bytes) items links h = absurd (false≢true h)
takes_one (Row x y code label) items links h = absurd (false≢true h)

one_takes : (c : Content) (x : Package) (i : Item) → In i x.items
    → takes_place (package_of (i ∷ []) []) c ≡ true
    → takes_place x c ≡ true
one_takes (Tile zoom column row bytes) x i there h = any_in (λ j. is_at zoom column row j.content) i x.items there
    (sym (or-false (is_at zoom column row i.content)) ∙ h)
one_takes (Media content_type bytes) x i there h = absurd (false≢true h)
one_takes (Row x y code label) z i there h = absurd (false≢true h)

places_named : (R : HeldItem → Named → Type 0) (hs : List HeldItem) (ns : List Named) → AllZip R hs ns
    → map (λ i. place_of i.content) (filter is_tile (named_items ns hs)) ≡ tile_places hs
places_named R [] [] all = refl
places_named R [] (n ∷ ns) all = absurd all
places_named R (h ∷ hs) [] all = absurd all
places_named R (h ∷ hs) (n ∷ ns) all =
    let i : Item = record { identity = n.identity; content = h.content } in
    elim (kind_is TileItem (kind_of h.content)) as (λ v. map (λ (j : Item). place_of j.content)
    (cond v (i ∷ filter is_tile (named_items ns hs)) (filter is_tile (named_items ns hs)))
    ≡ map (λ (g : HeldItem). place_of g.content) (cond v (h ∷ filter (λ g. kind_is TileItem (kind_of g.content))
    hs)
    (filter (λ g. kind_is TileItem (kind_of g.content)) hs))) [
      | true ↦ ap (λ l. place_of h.content ∷ l) (places_named R hs ns all.1)
      | false ↦ places_named R hs ns all.1
    ]

fit_new : (f : Frame) (ns : List Named) (hs : List HeldItem) → list_all (λ h. is_fit f h.content) hs ≡ true
    → AllByRecursion (λ (a : Item). is_fit f a.content ≡ true) (new_items ns hs)
fit_new f [] hs all = tt
fit_new f (n ∷ ns) [] all = tt
fit_new f (n ∷ ns) (h ∷ hs) all =
    let parts = and_parts (is_fit f h.content) (list_all (λ g. is_fit f g.content) hs) all in
    All-append (λ (a : Item). is_fit f a.content ≡ true) (new_item n h) (new_items ns hs)
    (elim n.is_new as (λ v. AllByRecursion {X = Item} (λ a. is_fit f a.content ≡ true)
    (cond v (record { identity = n.identity; content = h.content } ∷ []) []))
    [ true ↦ (parts.0, tt) | false ↦ tt ])
    (fit_new f ns hs parts.1)

-- ---- lists

lacks_part : {X : Type 0} (t u : X → Bool) (xs : List X) → list_any t xs ≡ false
    → list_any t (filter u xs) ≡ false
lacks_part t u xs none = none_any t (filter u xs) (All-filter (λ x. t x ≡ false) u xs (none_pass t xs none))

same_keys : (ks : List (List ℕ)) → map (λ k. k) ks ≡ ks
same_keys [] = refl
same_keys (k ∷ ks) = ap (λ l. k ∷ l) (same_keys ks)

false_by : (b : Bool) → (b ≡ true → ⊥) → b ≡ false
false_by true f = absurd (f refl)
false_by false f = refl

-- ---- where nothing is taken away, and where the package is to hold what the file has

module _ (ns : List Named) (items : List Item) where
  abbrev goes : Bool → List (List ℕ)
  goes more = cond more [] (identities (gone ns items))

  -- an item by which something is called stays
  stays_in : (more : Bool) (ds : List (List ℕ)) → ds ≡ goes more → (i : Item) → In i items
      → has (λ n. n.identity) i.identity ns ≡ true → In i (without (λ i. i.identity) ds items)
  stays_in more ds is i there named = In-filter (λ x. not (is_among ds x.identity)) i items there
      (ap not (false_by (is_among ds i.identity) (λ some. not_gone more
      (subst (λ l. is_among l i.identity ≡ true) is some))))
    where
      not_gone : (v : Bool) → is_among (goes v) i.identity ≡ true → ⊥
      not_gone true some = false≢true some
      not_gone false some =
          let it = any_at (λ z. bytes_eq z i.identity) (identities (gone ns items)) some in
          let j = In-of_map (λ x. x.identity) it.0 (gone ns items) it.1 in
          let g = of_filter (λ x. not (has (λ n. n.identity) x.identity ns)) j.0 items j.1 in
          let same : j.0.identity ≡ i.identity = j.2 ∙ (bytes_eq-Decides it.0 i.identity).0 it.2 in
          true≢false (sym (ap (λ k. has (λ n. n.identity) k ns) same ∙ named)
          ∙ not_true (has (λ n. n.identity) j.0.identity ns) g.1)

  -- and one that stays is such a one
  stays_named : (ds : List (List ℕ)) → ds ≡ goes false → (i : Item)
      → In i (without (λ i. i.identity) ds items)
      → has (λ n. n.identity) i.identity ns ≡ true
  stays_named ds is i there =
      let it = of_filter (λ x. not (is_among ds x.identity)) i items there in
      elim (has (λ n. n.identity) i.identity ns) as (λ v. has (λ n. n.identity) i.identity ns ≡ v → v ≡ true) [
        | true ↦ λ _. refl
        | false ↦ λ none.
            let out : In i (gone ns items) = In-filter (λ x. not (has (λ n. n.identity) x.identity ns)) i items it.0
            (ap not none) in
            let among : is_among ds i.identity ≡ true = subst (λ l. is_among l i.identity ≡ true) (sym is)
            (any_in (λ z. bytes_eq z i.identity) i.identity (identities (gone ns items))
            (In-map (λ x. x.identity) i (gone ns items) out) (bytes_eq_itself i.identity)) in
            absurd (true≢false (sym among ∙ not_true (is_among ds i.identity) it.1))
      ] refl

  -- what goes is there, each once
  goes_there : (more : Bool) → AllByRecursion (λ d. has (λ i. i.identity) d items ≡ true) (goes more)
  goes_there true = tt
  goes_there false = All-weaker (λ d. In d (identities (gone ns items)))
      (λ d. has (λ i. i.identity) d items ≡ true)
      (λ d i.
      let j = In-of_map (λ x. x.identity) d (gone ns items) i in
      any_in (λ x. bytes_eq x.identity d) j.0 items (of_filter (λ x. not (has (λ n. n.identity) x.identity ns)) j.0
      items j.1).0 ((bytes_eq-Decides j.0.identity d).1 j.2))
      (identities (gone ns items)) (In-all (identities (gone ns items)))

  goes_once : (more : Bool) → IsDistinct bytes_eq (identities items) → IsDistinct bytes_eq (goes more)
  unfolding IsDistinct
  goes_once true apart = tt
  goes_once false apart = counts_distinct (λ i. i.identity) (gone ns items)
      (λ k. omega (
        arith,
        distinct_counts (λ i. i.identity) k items apart,
        filter_less
            (λ i. cond (bytes_eq i.identity k) 1 0) (λ i. not (has (λ n. n.identity) i.identity ns)) items,
      ))

  -- no link that stays has an end that goes
  untied : (linked fl : List Relation) → AllByRecursion JoinsUuids linked → AllByRecursion JoinsUuids fl
      → AllByRecursion (LinkNamed ns) fl → (more : Bool) (us : List Relation)
      → us ≡ cond more [] (beyond fl linked)
      → AllByRecursion (λ d. list_any (has_end d) (without link_key (map link_key us) linked) ≡ false) (goes more)
  untied linked fl join join_file named true us is = tt
  untied linked fl join join_file named false us is = All-weaker (λ d. In d (identities (gone ns items)))
      (λ d. list_any (has_end d) (without link_key (map link_key us) linked) ≡ false)
      (λ d i. none_any (has_end d) (without link_key (map link_key us) linked)
      (All-weaker (λ l. In l (without link_key (map link_key us) linked)) (λ l. has_end d l ≡ false)
      (λ l j. false_by (has_end d l) (λ tied. ends d i l (in_fl l j) tied))
      (without link_key (map link_key us) linked) (In-all (without link_key (map link_key us) linked))))
      (identities (gone ns items)) (In-all (identities (gone ns items)))
    where
      in_fl : (l : Relation) → In l (without link_key (map link_key us) linked) → In l fl
      in_fl l j =
          let it = of_filter (λ x. not (is_among (map link_key us) (link_key x))) l linked j in
          elim (has link_key (link_key l) fl) as (λ v. has link_key (link_key l) fl ≡ v → In l fl) [
            | true ↦ λ some.
                let y = any_at (λ x. bytes_eq (link_key x) (link_key l)) fl some in
                subst (λ z. In z fl) (same_link y.0 l (All-In JoinsUuids y.0 fl join_file y.1)
                (All-In JoinsUuids l linked join it.0) ((bytes_eq-Decides (link_key y.0) (link_key l)).0 y.2)) y.1
            | false ↦ λ none.
                let out : In l (beyond fl linked) = In-filter (λ x. not (has link_key (link_key x) fl)) l linked it.0
                (ap not none) in
                let among : is_among (map link_key us) (link_key l) ≡ true =
                subst (λ z. is_among (map link_key z) (link_key l) ≡ true) (sym is)
                (any_in (λ z. bytes_eq z (link_key l)) (link_key l) (map link_key (beyond fl linked))
                (In-map link_key l (beyond fl linked) out) (bytes_eq_itself (link_key l))) in
                absurd (true≢false (sym among ∙ not_true (is_among (map link_key us) (link_key l)) it.1))
          ] refl

      end_stays : (d : List ℕ) → In d (identities (gone ns items)) → (kind : MovedKind) (id : List ℕ)
          → EndNamed ns kind id → bytes_eq id d ≡ true → ⊥
      end_stays d i kind id e same =
          let j = In-of_map (λ x. x.identity) d (gone ns items) i in
          let g = of_filter (λ x. not (has (λ n. n.identity) x.identity ns)) j.0 items j.1 in
          let there : e.name.identity ≡ j.0.identity = e.identity_is ∙ (bytes_eq-Decides id d).0 same ∙ sym j.2 in
          true≢false (sym (any_in (λ n. bytes_eq n.identity j.0.identity) e.name ns e.there
          ((bytes_eq-Decides e.name.identity j.0.identity).1 there))
          ∙ not_true (has (λ n. n.identity) j.0.identity ns) g.1)

      ends : (d : List ℕ) → In d (identities (gone ns items)) → (l : Relation) → In l fl
          → has_end d l ≡ true → ⊥
      ends d i l there tied =
          let l_named : LinkNamed ns l = All-In (LinkNamed ns) l fl named there in
          elim (bytes_eq l.base d) as (λ v. bytes_eq l.base d ≡ v → (v || bytes_eq l.other d) ≡ true → ⊥) [
            | true ↦ λ same _. end_stays d i (base_kind l.mapping) l.base l_named.base_named same
            | false ↦ λ _ other. end_stays d i (other_kind l.mapping) l.other l_named.other_named other
          ] refl tied

-- ---- all four parts

module _ (w : World) (p : List ℕ) (ticket : ℕ) (moment : List ℕ) (more : Bool) (file : List HeldItem)
    (held : List HeldLink) (requests : List Request) (register : IsRegister w) (live : is_live w p ≡ true)
    (changes : Changes w p ticket moment more file held requests)
    (can : CanTake w p moment more file changes.parts requests) where
  abbrev x : Package
  x = holdings w p

  abbrev ns : List Named
  ns = names_in w p ticket file

  abbrev us : List Relation
  us = changes.parts.unlinks.items

  abbrev ds : List (List ℕ)
  ds = changes.parts.deletes.items

  abbrev adds : List Item
  adds = changes.parts.adds.items

  abbrev ls : List Relation
  ls = changes.parts.links.items

  abbrev fl : List Relation
  fl = changes.for_file.file_links

  abbrev left : List Item
  left = items_left changes.parts x.items

  abbrev stay : List Relation
  stay = links_left changes.parts x.links

  abbrev fresh : List Item
  fresh = new_items ns file

  abbrev pub Fits : HeldItem → Named → Type 0
  Fits h n = HoldsUnder x.items h n × OfKind h n

  k : IsKeptPackage w x
  k = makes.kept w p ticket moment more file held requests register live changes

  zipped : AllZip Fits file ns
  zipped = zip_both (HoldsUnder x.items) OfKind file ns (makes.zipped w p ticket moment more file held requests
      register live changes) (kinds_named p ticket x.items file [] file)

  in_fresh : (a : Item) → In a adds → In a fresh
  in_fresh a i = moved a adds fresh (IsPermutation-sym fresh adds changes.for_file.adds) i

  -- what is held was added once
  used : (i : Item) → In i x.items → is_used w i.identity ≡ true
  used i there =
      let unaltered : IsUnaltered w i = All-In (IsUnaltered w) i x.items
      (at_all w (λ y. AllByRecursion (IsUnaltered w) y.items) p (each_unaltered w register.unaltered) live).0
      there in
      any_implies (λ r. is_add r && list_any (names_as i) r.items)
      (λ r. is_add r && has (λ m. m.base) i.identity r.items)
      (λ r e.
      let parts = and_parts (is_add r) (list_any (names_as i) r.items) e in
      ap (λ b. b && has (λ m. m.base) i.identity r.items) parts.0
      ∙ any_implies (names_as i) (λ m. bytes_eq m.base i.identity)
      (λ m f. (and_parts (bytes_eq m.base i.identity) _ (and_parts _ _ f).0).0) r.items parts.1)
      (receipts_of w) unaltered

  unused_all : AllByRecursion (λ a. is_used w a.identity ≡ false) adds
  unused_all = none_pass (λ a. is_used w a.identity) adds can.unused

  -- a new item is not held
  not_held : (a : Item) → In a adds → In a x.items → ⊥
  not_held a new there = true≢false (sym (used a there) ∙ All-In (λ b. is_used w b.identity ≡ false) a adds
      unused_all
      new)

  of_left : (i : Item) → In i left → In i x.items
  of_left i there = (of_filter (λ y. not (is_among ds y.identity)) i x.items there).0

  -- what is called by a name that is not new is held and stays
  old_left : (n : Named) → In n ns → (h : HeldItem) → n.is_new ≡ false → HoldsUnder x.items h n
      → In (record { identity = n.identity; content = h.content }) left
  old_left n there h old under = stays_in ns x.items more ds changes.for_file.deletes
      (record { identity = n.identity; content = h.content }) (old_stands x.items h n old under)
      (any_in (λ m. bytes_eq m.identity n.identity) n ns there (bytes_eq_itself n.identity))

  -- ---- places

  named : List Item
  named = named_items ns file

  one_place : (q : List ℕ) → count_by (λ i. bytes_eq (place_of i.content) q)
      (filter is_tile (named_items ns file)) ≤ 1
  one_place q = distinct_counts (λ i. place_of i.content) q (filter is_tile (named_items ns file))
      (subst (λ l. IsDistinct bytes_eq l) (sym (places_named Fits file ns zipped))
      (are_distinct (tile_places file) can.places_apart))

  meet_same : (i a : Item) → In i (named_items ns file) → In a (named_items ns file)
      → takes_place (package_of (i ∷ []) []) a.content ≡ true → i ≡ a
  meet_same i a i_in a_in taken =
      let it = meet i a.content taken in
      two_are_one (λ y. bytes_eq (place_of y.content) (place_of a.content)) i a (filter is_tile (named_items ns file))
      (one_place (place_of a.content))
      (In-filter is_tile i (named_items ns file) i_in it.0) (In-filter is_tile a (named_items ns file) a_in it.1)
      ((bytes_eq-Decides (place_of i.content) (place_of a.content)).1 it.2) (bytes_eq_itself (place_of a.content))

  add_named : (a : Item) → In a adds → In a (named_items ns file)
  add_named a i = made.new_named ns file a (in_fresh a i)

  -- what stays is in the file
  left_named : ds ≡ goes ns x.items false → (i : Item) → In i left → In i (named_items ns file)
  left_named is i there =
      let n = any_at (λ m. bytes_eq m.identity i.identity) ns (stays_named ns x.items ds is i there) in
      let it = at_name Fits file ns n.0 zipped n.1 in
      let u : Item = record { identity = n.0.identity; content = it.beside.content } in
      elim n.0.is_new as (λ v. n.0.is_new ≡ v → In i (named_items ns file)) [
        | true ↦ λ new.
            let u_new : In u adds = moved u fresh adds changes.for_file.adds (it.new new) in
            let u_used : is_used w u.identity ≡ true = ap (is_used w)
            ((bytes_eq-Decides n.0.identity i.identity).0 n.2) ∙ used i (of_left i there) in
            absurd (true≢false (sym u_used ∙ All-In (λ b. is_used w b.identity ≡ false) u adds unused_all u_new))
        | false ↦ λ old.
            let same : u ≡ i = two_are_one (λ y. bytes_eq y.identity i.identity) u i x.items
            (distinct_counts (λ y. y.identity) i.identity x.items k.identities)
            (old_stands x.items it.beside n.0 old it.fits.0) (of_left i there) n.2 (bytes_eq_itself i.identity) in
            subst (λ y. In y (named_items ns file)) same it.named
      ] refl

  places_free : AllByRecursion (λ a. takes_place (package_of left stay) a.content ≡ false) adds
  places_free = All-weaker (λ a. In a adds) (λ a. takes_place (package_of left stay) a.content ≡ false)
      (λ a i. false_by (takes_place (package_of left stay) a.content) (λ taken.
      let it = takes_one a.content left stay taken in
      never more changes.for_file.deletes can.places_free a i it.0 it.1 it.2)) adds (In-all adds)
    where
      never : (v : Bool) → ds ≡ goes ns x.items v → (v && list_any (λ a. takes_place x a.content) adds) ≡ false
          → (a : Item) → In a adds → (i : Item) → In i left → takes_place (package_of (i ∷ []) [])
          a.content ≡ true
          → ⊥
      never true is free a a_in i i_in taken =
          true≢false (sym (one_takes a.content x i (of_left i i_in) taken)
          ∙ All-In (λ b. takes_place x b.content ≡ false) a adds
          (none_pass (λ b. takes_place x b.content) adds free) a_in)
      never false is free a a_in i i_in taken =
          let same : i ≡ a = meet_same i a (left_named is i i_in) (add_named a a_in) taken in
          not_held a a_in (subst (λ y. In y x.items) same (of_left i i_in))

  new_places : (as' : List Item) → ((a : Item) → In a as' → In a adds) → IsDistinct bytes_eq (identities as')
      → HavePlaces as'
  new_places [] whole apart = tt
  new_places (a ∷ as') whole apart = (
    All-weaker (λ b. In b as') (λ b. AreApart a b.content)
        (λ b i. false_by (takes_place (package_of (a ∷ []) []) b.content) (λ taken.
        let same : a ≡ b = meet_same a b (add_named a (whole a (inl refl))) (add_named b (whole b (inr i))) taken in
        let other : bytes_eq a.identity b.identity ≡ false =
        All-In (λ id. bytes_eq a.identity id ≡ false) b.identity (identities as')
        (IsDistinct-head bytes_eq a.identity (identities as') apart) (In-map (λ y. y.identity) b as' i) in
        true≢false (sym (ap (λ y. bytes_eq a.identity y.identity) (sym same) ∙ bytes_eq_itself a.identity)
        ∙ other)))
        as' (In-all as'),
    new_places as' (λ b i. whole b (inr i)) (IsDistinct-tail bytes_eq a.identity (identities as') apart),
  )

  -- ---- limits

  here_within : is_overfull x ≡ false
  here_within =
      let tests = or_parts (list_any is_overfull w.packages || _) _ can.within_limits in
      let packages = or_parts (list_any is_overfull w.packages) _ tests.0 in
      (at_all w (λ y. is_overfull y ≡ false) p (none_pass is_overfull w.packages packages.0) live).0

  now_room : Room x.items x.links
  now_room = within_room x here_within

  then_room : Room (adds ++ left) (ls ++ stay)
  then_room = within_room (after_parts changes.parts x) can.package_within

  add_room : RoomFor adds left stay
  add_room = record {
    tiles = omega (arith, then_room.tiles, sum_by-append (λ i. cond (is_tile i) 1 0) adds left);
    media = omega (arith, then_room.media, sum_by-append (λ i. cond (is_medium i) 1 0) adds left);
    rows = omega (arith, then_room.rows, sum_by-append (λ i. cond (is_row i) 1 0) adds left);
    joins = omega (arith, then_room.joins, length-append ls stay);
  }

  abbrev all_items : List Item
  all_items = all_put item_key adds left

  whole_room : Room all_items stay
  whole_room = record {
    tiles = omega (arith, add_room.tiles, sum_put item_key (λ i. cond (is_tile i) 1 0) adds left);
    media = omega (arith, add_room.media, sum_put item_key (λ i. cond (is_medium i) 1 0) adds left);
    rows = omega (arith, add_room.rows, sum_put item_key (λ i. cond (is_row i) 1 0) adds left);
    joins = add_room.joins;
  }

  -- ---- ends

  end_there : (kind : MovedKind) (id : List ℕ) → EndNamed ns kind id
      → has item_key (kind_number kind ∷ id) all_items ≡ true
  end_there kind id e =
      let it = at_name Fits file ns e.name zipped e.there in
      let u : Item = record { identity = e.name.identity; content = it.beside.content } in
      let key_is : item_key u ≡ kind_number kind ∷ id = ap (λ m. kind_number m ∷ e.name.identity)
      (sym it.fits.1 ∙ e.kind_is) ∙ ap (λ v. kind_number kind ∷ v) e.identity_is in
      let there : In u all_items =
      elim e.name.is_new as (λ v. e.name.is_new ≡ v → In u all_items) [
        | true ↦ λ new. into_put item_key u adds left (inl (moved u fresh adds changes.for_file.adds (it.new new)))
        | false ↦ λ old. into_put item_key u adds left (inr (old_left e.name e.there it.beside old it.fits.0))
      ] refl in
      any_in (λ i. bytes_eq (item_key i) (kind_number kind ∷ id)) u all_items there
      ((bytes_eq-Decides (item_key u) (kind_number kind ∷ id)).1 key_is)

  both_there : (l : Relation) → In l ls → HasBoth all_items l
  both_there l i =
      let out = All-In (λ y. In y (beyond x.links fl)) l ls (makes.links_are w p ticket moment more file held requests
      register live changes) i in
      let l_in = makes.in_file w p ticket moment more file held requests register live changes l out in
      let ends : LinkNamed ns l = All-In (LinkNamed ns) l fl
      (makes.named_links w p ticket moment more file held requests register live changes) l_in.0 in (
        end_there (base_kind l.mapping) l.base ends.base_named,
        end_there (other_kind l.mapping) l.other
            ends.other_named,
      )

  not_there : (l : Relation) → In l ls → has link_key (link_key l) stay ≡ false
  not_there l i =
      let out = All-In (λ y. In y (beyond x.links fl)) l ls (makes.links_are w p ticket moment more file held requests
      register live changes) i in
      lacks_part (λ y. bytes_eq (link_key y) (link_key l)) (λ y. not (is_among (map link_key us) (link_key y)))
      x.links (makes.in_file w p ticket moment more file held requests register live changes l out).1

  -- ---- links that end

  us_arranged : (v : Bool) → IsArranged link_key (cond v [] (beyond fl x.links))
  us_arranged true = tt
  us_arranged false = filter_arranged link_key (λ l. not (has link_key (link_key l) fl)) x.links k.links

  link_once : (ys : List Relation) → IsArranged link_key ys → IsDistinct bytes_eq (map link_key ys)
  link_once ys order = counts_distinct link_key ys (λ q. counts_arranged link_key q ys order)

  -- ---- each when its turn comes

  all_ready : AreReady w [] x.items x.links requests
  all_ready =
      let of = request_of p ticket moment in
      let u = map of (map (unlinking p) us) in
      let d = map of (map (deleting p) ds) in
      let a = map of (map (adding p) adds) in
      let l = map of (map (linking p) ls) in
      let is : requests ≡ u ++ (d ++ (a ++ l)) =
      changes.asked ∙ made.apart of (λ c. refl) p us ds adds ls ∙ append_assoc (u ++ d) a l
      ∙ append_assoc u d (a ++ l) in
      let links_come : (later : List (List ℕ)) → AreReady w later all_items stay l = λ later.
      ready_links w p ticket moment can.moment_fits ls later all_items stay whole_room
      (omega (arith, then_room.joins, length-append ls stay))
      (All-weaker (λ y. In y ls) (HasBoth all_items) both_there ls (In-all ls))
      (All-weaker (λ y. In y ls) (λ y. has link_key (link_key y) stay ≡ false) not_there ls (In-all ls))
      (link_once ls changes.for_file.links_order) in
      let items_come : AreReady w [] left stay (a ++ l) =
      ready_adds w p ticket moment can.moment_fits adds [] left stay l add_room
      (all_moved (λ y. is_fit w.frame y.content ≡ true) fresh adds changes.for_file.adds
      (fit_new w.frame ns file can.contents_fit)) unused_all
      (All-weaker (λ y. In y adds) (λ y. is_among [] y.identity ≡ false) (λ y i. refl) adds (In-all adds))
      (are_distinct (identities adds) can.identities_apart) places_free
      (new_places adds (λ y i. i) (are_distinct (identities adds) can.identities_apart)) links_come in
      let items_go : AreReady w [] x.items stay (d ++ (a ++ l)) =
      ready_deletes w p ticket moment can.moment_fits ds [] x.items stay (a ++ l)
      (fewer_links (λ y. not (is_among (map link_key us) (link_key y))) x.items x.links now_room)
      (subst (AllByRecursion (λ q. has (λ (i : Item). i.identity) q x.items ≡ true)) (sym changes.for_file.deletes)
      (goes_there ns x.items more))
      (subst (AllByRecursion (λ q. list_any (has_end q) stay ≡ false)) (sym changes.for_file.deletes)
      (untied ns x.items x.links fl (makes.links_join w p ticket moment more file held requests register live changes)
      (makes.file_links_join w p ticket moment more file held requests register live changes)
      (makes.named_links w p ticket moment more file held requests register live changes) more us
      changes.for_file.unlinks))
      (subst (IsDistinct bytes_eq) (sym changes.for_file.deletes) (goes_once ns x.items more k.identities))
      (subst (λ y. AreReady w [] y stay (a ++ l)) (sym (folded_without (λ (i : Item). i.identity) (λ q. q) ds x.items
      ∙ ap (λ qs. without (λ (i : Item). i.identity) qs x.items) (same_keys ds))) items_come) in
      subst (AreReady w [] x.items x.links) (sym is)
      (ready_unlinks w p ticket moment can.moment_fits us [] x.items x.links (d ++ (a ++ l)) now_room
      (All-weaker (λ y. In y x.links) (λ y. has link_key (link_key y) x.links ≡ true)
      (λ y i. any_in (λ z. bytes_eq (link_key z) (link_key y)) y x.links i (bytes_eq_itself (link_key y))) us
      (makes.unlinks_are w p ticket moment more file held requests register live changes))
      (link_once us (subst (IsArranged link_key) (sym changes.for_file.unlinks) (us_arranged more)))
      (subst (λ y. AreReady w [] x.items y (d ++ (a ++ l))) (sym (folded_without link_key link_key us x.links))
      items_go))

pub nothing_is_refused : NothingIsRefused
nothing_is_refused w p ticket moment more file held requests replies next register live changes can run =
    ready_run_is_unrefused w p requests replies next register live
    (makes.within w p ticket moment more file held requests register live changes) can.requests_new
    can.within_limits can.ledger_within
    (all_ready w p ticket moment more file held requests register live changes can) run
