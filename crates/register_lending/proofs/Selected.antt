-- What a selection names of a package is its cut, whatever the order of the names.
use Rattle.std.specs.Prelude.{◌≡◌, ℕ, Bool, true, false, cond, not, ◌||◌, ◌&&◌, ◌⊎◌, ◌==◌}
use Rattle.std.specs.Prelude.{List, [], ◌∷◌, ◌++◌, map}
use Rattle.std.specs.Prelude.{filter, Option, Some, None, refl, bytes_eq, Contains}
use Rattle.std.proofs.Common.{inl, inr, sym, ap, subst, ◌∙◌}
use Rattle.std.proofs.lemmas.Bool.{true≢false, and_right}
use Rattle.std.proofs.lemmas.Slice.Eq.{bytes_eq-Decides}
use Rattle.std.specs.List.{AllByRecursion, IsDistinct, list_any, filter_map, cons_option}
use Rattle.sqlite.specs.Effect.{Database}
use Rattle.sheet_types.specs.Cut.{Cut, identities, has_end, touches}
use Rattle.sheet_types.specs.Ordered.{is_before, put, arranged, has, without, is_among, IsArranged}
use Rattle.sheet_types.specs.Register.{HasEnds}
use Rattle.sheet_types.specs.Step.{less}
use Rattle.sheet_types.specs.Texts.{kind_of}
use Rattle.sheet_types.specs.World.{Package, item_key, link_key, has_item, item_of, kind_number}
use Rattle.sheet_types.specs.declared.command.Item.{Item}
use Rattle.sheet_types.specs.declared.command.Relation.{Relation}
use Rattle.sheet_types.specs.declared.frame.Frame.{Frame}
use Rattle.sheet_types.proofs.Arranging.{put_put}
use Rattle.sheet_types.proofs.Basics.{before-differs, bytes_eq_itself, bytes_eq_swap}
use Rattle.sheet_types.proofs.Every.{All-map, All-weaker}
use Rattle.sheet_types.proofs.Found.{found, All-found, found_passes, filter_same}
use Rattle.sheet_types.proofs.Order.{All-arranged, All-of_arranged, All-of_put, list_any-arranged, put_arranged}
use Rattle.sheet_types.proofs.Same.{In, In-all, All-In, In-of_map, any_at, any_in}
use Rattle.sheet_types.proofs.Without.{among_keys}
use Rattle.identity_register.specs.Numbering.{Numbered}
use Rattle.identity_register.specs.Reads.{Reads}
use Rattle.identity_register.specs.declared.selection.Selection.{Selection}
use Rattle.identity_register.proofs.Finding.{contained, in_arranged}
use Rattle.transfer.specs.Parcels.{IsSelection, IsNewCut, names_of, selected, with_cut, without_names}
use Rattle.transfer.proofs.Unions.{arranged_itself}
use Rattle.package_tables.specs.Package.{tables_of}
use Rattle.register_lending.specs.Selecting.{IsSelectionOf, IsPart, MayCome}

-- ---- keys that differ

-- elements whose keys differ are one where their keys are the same
one_of : {X : Type 0} (key : X → List ℕ) (x y : X) (xs : List X) → IsDistinct bytes_eq (map key xs) → In x xs
    → In y xs → bytes_eq (key x) (key y) ≡ true → x ≡ y
unfolding IsDistinct
one_of {X} key x y [] d i j e = absurd i
one_of {X} key x y (z ∷ zs) d i j e = elim i [
  | inl here ↦ elim j [
    | inl there ↦ sym here ∙ there
    | inr later ↦ absurd (true≢false (sym (subst (λ w. bytes_eq (key w) (key y) ≡ true) (sym here) e)
        ∙ apart y later))
  ]
  | inr late ↦ elim j [
    | inl there ↦ absurd (true≢false (sym (subst (λ w. bytes_eq (key w) (key x) ≡ true) (sym there)
        (bytes_eq_swap (key y) (key x) ∙ e)) ∙ apart x late))
    | inr later ↦ one_of key x y zs d.1 late later e
  ]
]
  where
    apart : (w : X) → In w zs → bytes_eq (key z) (key w) ≡ false
    apart w k = All-In (λ l. bytes_eq (key z) l ≡ false) (key w) (map key zs) d.0 (in_map w zs k)
      where
        in_map : (w : X) (zs : List X) → In w zs → In (key w) (map key zs)
        in_map w [] k = absurd k
        in_map w (v ∷ vs) k = elim k [ inl is ↦ inl (ap key is) | inr more ↦ inr (in_map w vs more) ]

-- keys that strictly rise differ
distinct_keys : {X : Type 0} (key : X → List ℕ) (xs : List X) → IsArranged key xs
    → IsDistinct bytes_eq (map key xs)
unfolding IsDistinct
distinct_keys key [] h = tt
distinct_keys key (x ∷ xs) h = (
  All-map (λ k. bytes_eq (key x) k ≡ false) key xs
      (All-weaker _ _ (λ y b. before-differs (key x) (key y) b) xs h.0),
  distinct_keys key xs h.1,
)

-- texts that differ can be put in strict order, and only those
distinct_order : (xs : List (List ℕ)) → IsDistinct bytes_eq xs → IsArranged (λ k. k) (arranged (λ k. k) xs)
unfolding IsDistinct
distinct_order [] d = tt
distinct_order (x ∷ xs) d =
    put_arranged (λ k. k) x (arranged (λ k. k) xs) (distinct_order xs d.1)
    (All-arranged (λ k. k) (λ y. bytes_eq y x ≡ false) xs (All-weaker (λ y. bytes_eq x y ≡ false)
    (λ y. bytes_eq y x ≡ false) (λ y e. bytes_eq_swap y x ∙ e) xs d.0))

put_parts : (x : List ℕ) (ys : List (List ℕ)) → IsArranged (λ k. k) (put (λ k. k) x ys)
    → AllByRecursion (λ y. bytes_eq x y ≡ false) ys × IsArranged (λ k. k) ys
put_parts x [] h = (tt, tt)
put_parts x (y ∷ ys) h = one (is_before y x) h (put_parts x ys)
  where
    one : (b : Bool) → IsArranged (λ k. k) (cond b (y ∷ put (λ k. k) x ys) (x ∷ y ∷ ys))
        → (IsArranged (λ k. k) (put (λ k. k) x ys) → AllByRecursion (λ y. bytes_eq x y ≡ false) ys
        × IsArranged (λ k. k) ys)
        → AllByRecursion (λ y. bytes_eq x y ≡ false) (y ∷ ys) × IsArranged (λ k. k) (y ∷ ys)
    one true h rest =
        let it = rest h.1 in
        let first = All-of_put (λ k. k) (λ z. is_before y z ≡ true) x ys h.0 in
        ((bytes_eq_swap x y ∙ before-differs y x first.0, it.0), (first.1, it.1))
    one false h rest = (
      All-weaker (λ z. is_before x z ≡ true) (λ z. bytes_eq x z ≡ false)
          (λ z b. before-differs x z b) (y ∷ ys) h.0,
      h.1,
    )

order_distinct : (xs : List (List ℕ)) → IsArranged (λ k. k) (arranged (λ k. k) xs) → IsDistinct bytes_eq xs
unfolding IsDistinct
order_distinct [] h = tt
order_distinct (x ∷ xs) h =
    let it = put_parts x (arranged (λ k. k) xs) h in
    (All-of_arranged (λ k. k) (λ y. bytes_eq x y ≡ false) xs it.0, order_distinct xs it.1)

-- items of different identities have different keys
other_key : (i j : Item) → bytes_eq i.identity j.identity ≡ false → bytes_eq (item_key i) (item_key j) ≡ false
other_key i j e = ap (λ b. (kind_number (kind_of i.content) == kind_number (kind_of j.content)) && b) e
    ∙ and_right (kind_number (kind_of i.content) == kind_number (kind_of j.content)) false refl

-- tests that agree on each element
any_same : {X : Type 0} (p q : X → Bool) (xs : List X) → AllByRecursion (λ x. p x ≡ q x) xs
    → list_any p xs ≡ list_any q xs
any_same p q [] h = refl
any_same p q (x ∷ xs) h = ap (λ b. b || list_any p xs) h.0 ∙ ap (λ b. q x || b) (any_same p q xs h.1)

-- ---- items that come by their names, in any order

module _ (g : List ℕ → Option Item) (named : (id : List ℕ) (i : Item) → g id ≡ Some i → i.identity ≡ id)
    (ys : List Item) where
  abbrev adds : Option Item → List Item → List Item
  adds None l = l
  adds (Some i) l = put item_key i l

  abbrev all_in : List (List ℕ) → List Item
  all_in ids = arranged item_key (filter_map g ids ++ ys)

  one_in : (id : List ℕ) (ids : List (List ℕ)) → all_in (id ∷ ids) ≡ adds (g id) (all_in ids)
  one_in id ids = at (g id)
    where
      at : (o : Option Item) → arranged item_key (cons_option o (filter_map g ids) ++ ys) ≡ adds o (all_in ids)
      at None = refl
      at (Some i) = refl

  swapped : (x y : List ℕ) (l : List Item) → bytes_eq x y ≡ false
      → adds (g x) (adds (g y) l) ≡ adds (g y) (adds (g x) l)
  swapped x y l apart = at (g x) (g y) refl refl
    where
      at : (a b : Option Item) → g x ≡ a → g y ≡ b → adds a (adds b l) ≡ adds b (adds a l)
      at None b e d = refl
      at (Some i) None e d = refl
      at (Some i) (Some j) e d = put_put item_key i j l (other_key i j
          (ap (λ k. bytes_eq k j.identity) (named x i e) ∙ ap (λ k. bytes_eq x k) (named y j d) ∙ apart))

  put_in : (x : List ℕ) (ids : List (List ℕ)) → all_in (put (λ k. k) x ids) ≡ all_in (x ∷ ids)
  put_in x [] = refl
  put_in x (y ∷ ids) = at (is_before y x) refl (put_in x ids)
    where
      at : (b : Bool) → is_before y x ≡ b → all_in (put (λ k. k) x ids) ≡ all_in (x ∷ ids)
          → all_in (cond b (y ∷ put (λ k. k) x ids) (x ∷ y ∷ ids)) ≡ all_in (x ∷ y ∷ ids)
      at false e rest = refl
      at true e rest =
          one_in y (put (λ k. k) x ids) ∙ ap (adds (g y)) (rest ∙ one_in x ids)
          ∙ swapped y x (all_in ids) (before-differs y x e) ∙ ap (adds (g x)) (sym (one_in y ids))
          ∙ sym (one_in x (y ∷ ids))

  sorted_in : (ids : List (List ℕ)) → all_in (arranged (λ k. k) ids) ≡ all_in ids
  sorted_in [] = refl
  sorted_in (x ∷ ids) = put_in x (arranged (λ k. k) ids) ∙ one_in x (arranged (λ k. k) ids)
      ∙ ap (adds (g x)) (sorted_in ids) ∙ sym (one_in x ids)

-- ---- a part of a package

module _ (c : Cut) (s : Selection) (f : Frame) (p : Package) (db : Database) (is : IsSelectionOf c s)
    (reads : Reads f p db) (part : IsPart c p) where
  abbrev names : List (List ℕ)
  names = s.identities.items

  one_item : (x y : Item) → In x p.items → In y p.items → bytes_eq x.identity y.identity ≡ true → x ≡ y
  one_item x y i j = one_of (λ z. z.identity) x y (map (λ n. n.item) reads.says.numbered)
      (subst (IsDistinct bytes_eq) (map_both reads.says.numbered) reads.says.numbers.identities) (inside x i)
      (inside y j)
    where
      inside : (z : Item) → In z p.items → In z (map (λ n. n.item) reads.says.numbered)
      inside z k = in_arranged item_key (map (λ n. n.item) reads.says.numbered) z (subst (In z) reads.says.items k)

      map_both : (ns : List Numbered) → map (λ n. n.item.identity) ns
          ≡ map (λ z. z.identity) (map (λ n. n.item) ns)
      map_both [] = refl
      map_both (n ∷ ns) = ap (λ l. n.item.identity ∷ l) (map_both ns)

  in_package : (i : Item) → In i c.items → In i p.items
  in_package i k = contained p.items i (All-In (λ j. Contains p.items j) i c.items part.items k)

  -- its identities differ
  apart_from : (xs : List Item) (x : Item) → AllByRecursion (λ i. In i p.items) xs → In x p.items
      → AllByRecursion (λ y. is_before (item_key x) (item_key y) ≡ true) xs
      → AllByRecursion (λ y. bytes_eq x.identity y.identity ≡ false) xs
  apart_from [] x there here h = tt
  apart_from (y ∷ ys) x there here h = (at (bytes_eq x.identity y.identity) refl, apart_from ys x there.1 here h.1)
    where
      at : (b : Bool) → bytes_eq x.identity y.identity ≡ b → b ≡ false
      at false e = refl
      at true e = absurd (true≢false (sym (bytes_eq_itself (item_key x))
          ∙ ap (λ z. bytes_eq (item_key x) (item_key z)) (one_item x y here there.0 e)
          ∙ before-differs (item_key x) (item_key y) h.0))

  distinct_items : (xs : List Item) → AllByRecursion (λ i. In i p.items) xs → IsArranged item_key xs
      → IsDistinct bytes_eq (identities xs)
  unfolding IsDistinct
  distinct_items [] there h = tt
  distinct_items (x ∷ xs) there h = (
    All-map (λ k. bytes_eq x.identity k ≡ false) (λ i. i.identity) xs
        (apart_from xs x there.1 there.0 h.0),
    distinct_items xs there.1 h.1,
  )

  all_there : AllByRecursion (λ i. In i p.items) c.items
  all_there = All-weaker (λ i. In i c.items) (λ i. In i p.items) (λ i k. in_package i k) c.items (In-all c.items)

  distinct_names : IsDistinct bytes_eq names
  distinct_names = order_distinct names (subst (IsArranged (λ k. k)) (sym is.identities)
      (distinct_order (identities c.items) (distinct_items c.items all_there part.item_order)))

  -- a name is that of an item of the cut
  same_names : (id : List ℕ) → is_among names id ≡ is_among (identities c.items) id
  same_names id = sym (list_any-arranged (λ k. k) (λ k. bytes_eq k id) names)
      ∙ ap (list_any (λ k. bytes_eq k id)) is.identities ∙ list_any-arranged (λ k. k) (λ k. bytes_eq k id)
      (identities c.items)

  named_item : (id : List ℕ) → is_among names id ≡ true → (i : Item) × In i c.items × (i.identity ≡ id)
  named_item id among =
      let at = any_at (λ k. bytes_eq k id) (identities c.items) (sym (same_names id) ∙ among) in
      let it = In-of_map (λ i. i.identity) at.0 c.items at.1 in
      (it.0, it.1, it.2 ∙ (bytes_eq-Decides at.0 id).0 at.2)

  each_named : AllByRecursion (λ id. (i : Item) × In i c.items × (i.identity ≡ id)) names
  each_named = All-weaker (λ id. In id names) _ (λ id k. named_item id
      (any_in (λ x. bytes_eq x id) id names k (bytes_eq_itself id))) names (In-all names)

  -- and that item is found under it
  found_there : (i : Item) → In i p.items → item_of p i.identity ≡ Some i
  found_there i k =
      let it = found (λ x. bytes_eq x.identity i.identity) p.items
      (any_in (λ x. bytes_eq x.identity i.identity) i p.items k (bytes_eq_itself i.identity)) in
      let at = All-found (λ x. In x p.items) (λ x. bytes_eq x.identity i.identity) it.0 p.items it.1
      (In-all p.items) in
      it.1 ∙ ap Some (one_item it.0 i at.0 k at.1)

  found_named : (id : List ℕ) (i : Item) → item_of p id ≡ Some i → i.identity ≡ id
  found_named id i e = (bytes_eq-Decides i.identity id).0 (found_passes (λ x. bytes_eq x.identity id) i p.items e)

  own_items : (xs : List Item) → AllByRecursion (λ i. In i p.items) xs
      → filter_map (item_of p) (identities xs) ≡ xs
  own_items [] there = refl
  own_items (x ∷ xs) there = ap (λ o. cons_option o (filter_map (item_of p) (identities xs))) (found_there x there.0)
      ∙ ap (λ l. x ∷ l) (own_items xs there.1)

  -- with others, they are arranged as the items of the cut are
  pub with_others : (ys : List Item) → arranged item_key (filter_map (item_of p) names ++ ys)
      ≡ arranged item_key (c.items ++ ys)
  with_others ys =
      sym (sorted_in (item_of p) found_named ys names) ∙ ap (λ ids. arranged item_key
      (filter_map (item_of p) ids ++ ys)) is.identities
      ∙ sorted_in (item_of p) found_named ys (identities c.items)
      ∙ ap (λ l. arranged item_key (l ++ ys)) (own_items c.items all_there)

  -- what is true of each item of the cut is true of each that is found
  each_found : (P : Item → Type 0) (ids : List (List ℕ)) → AllByRecursion
      (λ id. (i : Item) × In i c.items × (i.identity ≡ id)) ids → AllByRecursion P c.items
      → AllByRecursion P (filter_map (item_of p) ids)
  each_found P [] them all = tt
  each_found P (id ∷ ids) them all =
      subst (λ o. AllByRecursion P (cons_option o (filter_map (item_of p) ids)))
      (sym (ap (item_of p) (sym them.0.2) ∙ found_there them.0.0 (in_package them.0.0 them.0.1)))
      (All-In P them.0.0 c.items all them.0.1, each_found P ids them.1 all)

  found_names : (ids : List (List ℕ)) → AllByRecursion (λ id. (i : Item) × In i c.items × (i.identity ≡ id))
      ids
      → identities (filter_map (item_of p) ids) ≡ ids
  found_names [] them = refl
  found_names (id ∷ ids) them =
      ap (λ o. identities (cons_option o (filter_map (item_of p) ids)))
      (ap (item_of p) (sym them.0.2) ∙ found_there them.0.0 (in_package them.0.0 them.0.1))
      ∙ ap (λ k. k ∷ identities (filter_map (item_of p) ids)) them.0.2
      ∙ ap (λ l. id ∷ l) (found_names ids them.1)

  distinct_links : IsDistinct bytes_eq (map link_key s.links.items)
  distinct_links = subst (λ l. IsDistinct bytes_eq (map link_key l)) (sym is.links)
      (distinct_keys link_key c.links part.link_order)

  -- ---- what goes

  goes_along : (l : Relation) → In l p.links → touches (is_among names) l ≡ true
      → is_among (map link_key s.links.items) (link_key l) ≡ true
  goes_along l k touched = at (is_among names l.base) refl touched
    where
      by_end : (i : Item) → In i c.items → has_end i.identity l ≡ true
          → is_among (map link_key s.links.items) (link_key l) ≡ true
      by_end i j ends =
          subst (λ ls. is_among (map link_key ls) (link_key l) ≡ true) (sym is.links)
          (among_keys link_key (link_key l) c.links ∙ All-In
          (λ m. has_end i.identity m ≡ true → has link_key (link_key m) c.links ≡ true) l p.links
          (All-In (λ x. AllByRecursion (λ m. has_end x.identity m ≡ true
          → has link_key (link_key m) c.links ≡ true) p.links) i c.items part.whole j) k ends)

      at : (b : Bool) → is_among names l.base ≡ b → (b || is_among names l.other) ≡ true
          → is_among (map link_key s.links.items) (link_key l) ≡ true
      at true e touched =
          let it = named_item l.base e in
          by_end it.0 it.1 (ap (λ b. b || bytes_eq l.other it.0.identity)
          (ap (bytes_eq l.base) it.2 ∙ bytes_eq_itself l.base))
      at false e touched =
          let it = named_item l.other touched in
          by_end it.0 it.1 (ap (λ b. bytes_eq l.base it.0.identity || b)
          (ap (bytes_eq l.other) it.2 ∙ bytes_eq_itself l.other) ∙ last (bytes_eq l.base it.0.identity))
        where
          last : (b : Bool) → (b || true) ≡ true
          last true = refl
          last false = refl

  pub is_selection : IsSelection (names_of s) p
  is_selection = record {
    distinct_items = distinct_names;
    items = All-weaker (λ id. (i : Item) × In i c.items × (i.identity ≡ id)) (λ id. has_item p id ≡ true)
        (λ id it. any_in (λ x. bytes_eq x.identity id) it.0 p.items (in_package it.0 it.1)
        (ap (λ k. bytes_eq k id) it.2 ∙ bytes_eq_itself id)) names each_named;
    distinct_links = distinct_links;
    links = subst (AllByRecursion (λ l. has link_key (link_key l) p.links ≡ true)) (sym is.links)
        (All-weaker (λ l. Contains p.links l) (λ l. has link_key (link_key l) p.links ≡ true)
        (λ l there. any_in (λ m. bytes_eq (link_key m) (link_key l)) l p.links (contained p.links l there)
        (bytes_eq_itself (link_key l))) c.links part.links);
    whole = All-weaker (λ l. In l p.links) _ (λ l k. goes_along l k) p.links (In-all p.links);
  }

  same_key : (x y : Item) → In x p.items → In y c.items → bytes_eq y.identity x.identity
      ≡ bytes_eq (item_key y) (item_key x)
  same_key x y i j = at (bytes_eq y.identity x.identity) refl
    where
      at : (b : Bool) → bytes_eq y.identity x.identity ≡ b → b ≡ bytes_eq (item_key y) (item_key x)
      at true e = sym (ap (λ z. bytes_eq (item_key z) (item_key x)) (one_item y x (in_package y j) i e)
          ∙ bytes_eq_itself (item_key x))
      at false e = sym (other_key y x e)

  same_rest : without (λ i. i.identity) names p.items ≡ without item_key (map item_key c.items) p.items
  same_rest = filter_same (λ x. not (is_among names x.identity))
      (λ x. not (is_among (map item_key c.items) (item_key x))) p.items
      (All-weaker (λ x. In x p.items) _ (λ x k. ap not (same_names x.identity
      ∙ among_keys (λ i. i.identity) x.identity c.items
      ∙ any_same (λ y. bytes_eq y.identity x.identity) (λ y. bytes_eq (item_key y) (item_key x)) c.items
      (All-weaker (λ y. In y c.items) _ (λ y j. same_key x y k j) c.items (In-all c.items))
      ∙ sym (among_keys item_key (item_key x) c.items))) p.items (In-all p.items))

  -- what is left is the package less the cut
  pub left_is_less : without_names (names_of s) p ≡ less c p
  left_is_less =
      let links = ap (λ ls. without link_key (map link_key ls) p.links) is.links in
      λ n. record p { items = same_rest n; links = links n }

  -- ---- what comes

  module _ (q : Package) (may : MayCome c q) where
    pub same_with : with_cut (selected (names_of s) p) q ≡ with_cut c q
    same_with =
        let items = with_others q.items in
        let links = ap (λ ls. arranged link_key (ls ++ q.links)) is.links in
        λ n. record q { items = items n; links = links n }

    pub is_new_cut : IsNewCut (selected (names_of s) p) q
    is_new_cut = record {
      distinct_items = subst (IsDistinct bytes_eq) (sym (found_names names each_named)) distinct_names;
      items = each_found (λ i. has_item q i.identity ≡ false) names each_named may.identities;
      distinct_links = distinct_links;
      links = subst (AllByRecursion (λ l. has link_key (link_key l) q.links ≡ false)) (sym is.links) may.links;
      ends = subst (λ x. AllByRecursion (HasEnds x) s.links.items) (sym same_with)
          (subst (AllByRecursion (HasEnds (with_cut c q))) (sym is.links) may.ends);
    }

-- ---- selections in other words

-- names that are sorted, as a split selects them
pub sorted_selection : (c : Cut) (s : Selection) → IsDistinct bytes_eq (identities c.items)
    → s.identities.items ≡ arranged (λ id. id) (identities c.items) → s.links.items ≡ c.links
    → IsSelectionOf c s
sorted_selection c s distinct sorted links = record {
  identities = ap (arranged (λ id. id)) sorted ∙ arranged_itself (λ id. id)
      (arranged (λ id. id) (identities c.items))
      (distinct_order (identities c.items) distinct);
  links = links;
}
