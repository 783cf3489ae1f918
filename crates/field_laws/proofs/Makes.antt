-- What the changes for a file make, where each request got a receipt.
use Rattle.std.specs.Prelude.{◌≡◌, ◌≤◌, ℕ, Bool, true, false, cond, not, ◌&&◌, List, [], ◌∷◌}
use Rattle.std.specs.Prelude.{◌++◌, map, filter}
use Rattle.std.specs.Prelude.{bytes_eq, count_by, length, IsPermutation, refl}
use Rattle.std.proofs.Common.{sym, ap, subst, ◌∙◌, inl, inr, arith, drop}
use Rattle.std.specs.List.{list_any, AllByRecursion, AllZip, IsDistinct}
use Rattle.std.proofs.lemmas.Bool.{true≢false, false≢true, and_from}
use Rattle.std.proofs.lemmas.List.Sorted.{IsPermutation-sym, sum_by-IsPermutation}
use Rattle.std.proofs.lemmas.List.Sums.{sum_by-append}
use Rattle.std.proofs.lemmas.Slice.Eq.{bytes_eq-Decides}
use Rattle.sheet_types.specs.Cut.{identities}
use Rattle.sheet_types.specs.Lines.{is_uuid, IsUuid, HasTypes}
use Rattle.sheet_types.specs.Ordered.{has, is_among, without, arranged, IsArranged}
use Rattle.sheet_types.specs.Register.{IsRegister, IsKeptPackage, HasEnds}
use Rattle.sheet_types.specs.Step.{Run}
use Rattle.sheet_types.specs.World.{World, Package, is_live, holdings, item_key, link_key, kind_number, has_kind}
use Rattle.sheet_types.specs.World.{base_kind, other_kind}
use Rattle.sheet_types.specs.declared.command.Command.{Command}
use Rattle.sheet_types.specs.declared.command.Item.{Item}
use Rattle.sheet_types.specs.declared.command.Relation.{Relation}
use Rattle.sheet_types.specs.declared.command.Request.{Request}
use Rattle.sheet_types.specs.declared.receipt.MovedKind.{MovedKind}
use Rattle.sheet_types.proofs.Basics.{bytes_eq_itself, not_true}
use Rattle.sheet_types.proofs.Distinct.{distinct_counts}
use Rattle.sheet_types.proofs.Every.{All-weaker, All-append, All-map, All-filter}
use Rattle.sheet_types.proofs.Order.{counts_arranged}
use Rattle.sheet_types.proofs.Same.{In, In-all, All-In, In-filter, In-map, In-of_map, In-append, In-of_append, any_in}
use Rattle.sheet_types.proofs.Same.{any_at, two_are_one}
use Rattle.sheet_types.proofs.Sums.{count_le, any_some, any_none}
use Rattle.sheet_laws.proofs.Facts.{kept_at}
use Rattle.sheet_laws.proofs.Packages.{at_all}
use Rattle.field_changes.specs.Asked.{commands, unlinking, deleting, adding, linking}
use Rattle.field_changes.specs.Ids.{request_of, item_text}
use Rattle.field_changes.specs.Keys.{content_key, same_content}
use Rattle.field_changes.specs.Naming.{names_behind, name_of, known_as}
use Rattle.field_changes.specs.Parts.{gone, new_item, new_items, beyond}
use Rattle.field_changes.specs.declared.held.HeldItem.{HeldItem}
use Rattle.field_changes.specs.declared.held.HeldLink.{HeldLink}
use Rattle.field_changes.specs.declared.naming.Name.{Name}
use Rattle.field_changes.specs.declared.naming.Name.TheVariants.{Old, New}
use Rattle.field_changes.specs.declared.naming.Named.{Named}
use Rattle.field_run_laws.specs.Lists.{IsWithin, AreWithin, AreNew, items_through, links_through, HoldsNow, Reply}
use Rattle.field_run_laws.specs.Lists.{AreGiven}
use Rattle.field_run_laws.proofs.Held.{Stage, begins, run_stage, holds_now}
use Rattle.field_run_laws.proofs.Lists.{moved, of_filter, one_list, all_put, in_put, into_put, sum_put}
use Rattle.field_laws.specs.Changing.{Changes, names_in, ChangesMake, MoreAdds}
use Rattle.field_laws.specs.Laws.{is_item, HoldsUnder}
use Rattle.field_laws.specs.Making.{named_items, each_once, items_left, links_left}
use Rattle.field_changes.proofs.Contents.{same_key}
use Rattle.field_laws.proofs.Made.{items_closed, links_closed, zip_at, paired, new_named, each_named, named_count}
use Rattle.field_laws.proofs.Made.{each_of_once, once_for_each, once_count, JoinsUuids, same_link, LinkNamed}
use Rattle.field_laws.proofs.Made.{links_named}
use Rattle.field_laws.proofs.Names.{both, old_names}
use Rattle.field_laws.proofs.Naming.{old_names_differ}
use Rattle.field_laws.proofs.Uuids.{derived_is_uuid}

-- ---- identities are UUIDs

pub all_moved : {X : Type 0} (P : X → Type 0) (xs ys : List X) → IsPermutation xs ys → AllByRecursion P xs
    → AllByRecursion P ys
all_moved P xs ys moves all = All-weaker (λ y. In y ys) P (λ y i. All-In P y xs all
    (moved y ys xs (IsPermutation-sym xs ys moves) i)) ys (In-all ys)

new_uuids : (p : List ℕ) (n : ℕ) (items : List Item) (file before hs : List HeldItem)
    → AllByRecursion (λ m. m.is_new ≡ true → IsUuid m.identity) (names_behind p n items file before hs)
new_uuids p n items file before [] = tt
new_uuids p n items file before (h ∷ hs) = (
  one (name_of items file before h),
  new_uuids p n items file
      (before ++ h ∷ []) hs,
)
  where
    one : (x : Name) → (known_as p n h x).is_new ≡ true → IsUuid (known_as p n h x).identity
    one (Old id) new = absurd (false≢true new)
    one (New copy) new = derived_is_uuid (item_text p n copy h.content)

uuids_new : (ns : List Named) (hs : List HeldItem) → AllByRecursion (λ (n : Named). IsUuid n.identity) ns
    → AllByRecursion (λ (i : Item). IsUuid i.identity) (new_items ns hs)
uuids_new [] hs all = tt
uuids_new (n ∷ ns) [] all = tt
uuids_new (n ∷ ns) (h ∷ hs) all = All-append (λ i. IsUuid i.identity) (new_item n h) (new_items ns hs)
    (elim n.is_new as (λ v. AllByRecursion {X = Item} (λ i. IsUuid i.identity)
    (cond v (record { identity = n.identity; content = h.content } ∷ []) [])) [ true ↦ (all.0, tt) | false ↦ tt ])
    (uuids_new ns hs all.1)

-- what stands under an old name
pub old_stands : (items : List Item) (h : HeldItem) (n : Named) → n.is_new ≡ false → HoldsUnder items h n
    → In (record { identity = n.identity; content = h.content }) items
old_stands items h n old under =
    let it = any_at (is_item n.identity h.content) items (under old) in
    let i : Item = it.0 in
    let parts = both (bytes_eq i.identity n.identity) (same_content i.content h.content) it.2 in
    let id_is : i.identity ≡ n.identity = (bytes_eq-Decides i.identity n.identity).0 parts.0 in
    let content_is : i.content ≡ h.content = same_key i.content h.content
    ((bytes_eq-Decides (content_key i.content) (content_key h.content)).0 parts.1) in
    subst (λ j. In j items) (ap (λ u. record { identity = u; content = i.content }) id_is
    ∙ ap (λ c. record { identity = n.identity; content = c }) content_is) it.1

-- ---- what the requests are

module _ (w : World) (p : List ℕ) (ticket : ℕ) (moment : List ℕ) (more : Bool) (file : List HeldItem)
    (held : List HeldLink) (requests : List Request) (register : IsRegister w) (live : is_live w p ≡ true)
    (changes : Changes w p ticket moment more file held requests) where
  abbrev pub here : Package
  here = holdings w p

  abbrev pub names : List Named
  names = names_in w p ticket file

  abbrev pub linked_in : List Relation
  linked_in = changes.for_file.file_links

  pub kept : IsKeptPackage w here
  kept = kept_at w p register live

  pub p_is_uuid : IsUuid p
  p_is_uuid = subst IsUuid (at_all w (IsKeptPackage w) p register.packages live).1 kept.uuid

  pub zipped : AllZip (HoldsUnder here.items) file names
  zipped = old_names p ticket here.items file

  pub name_uuids : AllByRecursion (λ n. IsUuid n.identity) names
  name_uuids = All-weaker (λ n. In n names) (λ n. IsUuid n.identity) (λ n i. one n i) names (In-all names)
    where
      one : (n : Named) → In n names → IsUuid n.identity
      one n i =
          elim n.is_new as (λ v. n.is_new ≡ v → IsUuid n.identity) [
            | true ↦ λ new. All-In (λ m. m.is_new ≡ true → IsUuid m.identity) n names
                (new_uuids p ticket here.items file [] file) i new
            | false ↦ λ old.
                let z = zip_at (HoldsUnder here.items) file names n zipped i in
                All-In (λ j. IsUuid j.identity) (record { identity = n.identity; content = z.0.content }) here.items
                kept.uuids (old_stands here.items z.0 n old z.1)
          ] refl

  pub named_links : AllByRecursion (LinkNamed names) linked_in
  named_links = links_named names held linked_in changes.for_file.named

  pub file_links_join : AllByRecursion JoinsUuids linked_in
  file_links_join = All-weaker (LinkNamed names) JoinsUuids
      (λ l ends. (
        subst IsUuid ends.base_named.identity_is (All-In (λ n. IsUuid n.identity) ends.base_named.name names
            name_uuids ends.base_named.there),
        subst IsUuid ends.other_named.identity_is (All-In (λ n. IsUuid n.identity) ends.other_named.name names
            name_uuids ends.other_named.there),
      )) linked_in named_links

  end_uuid : (kind : MovedKind) (id : List ℕ) → has_kind here kind id ≡ true → IsUuid id
  end_uuid kind id some =
      let it = any_at (λ i. bytes_eq (item_key i) (kind_number kind ∷ id)) here.items some in
      let same : it.0.identity ≡ id = ap (drop 1) ((bytes_eq-Decides (item_key it.0) (kind_number kind ∷ id)).0
      it.2) in
      subst IsUuid same (All-In (λ j. IsUuid j.identity) it.0 here.items kept.uuids it.1)

  pub links_join : AllByRecursion JoinsUuids here.links
  links_join = All-weaker (HasEnds here) JoinsUuids (λ l ends.
      (end_uuid (base_kind l.mapping) l.base ends.0, end_uuid (other_kind l.mapping) l.other ends.1)) here.links
      kept.ends

  -- ---- the parts

  pub unlinks_are : AllByRecursion (λ l. In l here.links) changes.parts.unlinks.items
  unlinks_are = subst (AllByRecursion (λ l. In l here.links)) (sym changes.for_file.unlinks)
      (elim more as (λ v. AllByRecursion (λ l. In l here.links) (cond v [] (beyond linked_in here.links))) [
        | true ↦ tt
        | false ↦ All-filter (λ l. In l here.links) (λ l. not (has link_key (link_key l) linked_in)) here.links
            (In-all here.links)
      ])

  pub deletes_are : AllByRecursion (λ id. In id (identities here.items)) changes.parts.deletes.items
  deletes_are = subst (AllByRecursion (λ id. In id (identities here.items))) (sym changes.for_file.deletes)
      (elim more as (λ v. AllByRecursion (λ id. In id (identities here.items))
      (cond v [] (identities (gone names here.items)))) [
        | true ↦ tt
        | false ↦ All-map (λ id. In id (identities here.items)) (λ i. i.identity) (gone names here.items)
            (All-filter (λ i. In i.identity (identities here.items))
            (λ i. not (has (λ n. n.identity) i.identity names)) here.items
            (All-weaker (λ i. In i here.items) (λ i. In i.identity (identities here.items))
            (λ i j. In-map (λ x. x.identity) i here.items j) here.items (In-all here.items)))
      ])

  pub adds_are : AllByRecursion (λ i. In i (new_items names file)) changes.parts.adds.items
  adds_are = all_moved (λ i. In i (new_items names file)) (new_items names file) changes.parts.adds.items
      changes.for_file.adds (In-all (new_items names file))

  pub links_are : AllByRecursion (λ l. In l (beyond here.links linked_in)) changes.parts.links.items
  links_are = all_moved (λ l. In l (beyond here.links linked_in)) (beyond here.links linked_in)
      changes.parts.links.items changes.for_file.links (In-all (beyond here.links linked_in))

  pub in_file : (l : Relation) → In l (beyond here.links linked_in) → In l linked_in
      × (has link_key (link_key l) here.links ≡ false)
  in_file l i =
      let it = of_filter (λ x. not (has link_key (link_key x) here.links)) l linked_in i in
      (it.0, not_true (has link_key (link_key l) here.links) it.1)

  two_types : (l : Relation) → JoinsUuids l → (is_uuid p && is_uuid l.base && is_uuid l.other) ≡ true
  two_types l ends = and_from (is_uuid p && is_uuid l.base) (is_uuid l.other)
      (and_from (is_uuid p) (is_uuid l.base) p_is_uuid ends.0) ends.1

  abbrev Fits : Command → Type 0
  Fits c = HasTypes c × IsWithin p c

  pub within : AreWithin p requests
  within =
      let us = changes.parts.unlinks.items in
      let ds = changes.parts.deletes.items in
      let as' = changes.parts.adds.items in
      let ls = changes.parts.links.items in
      let a : AllByRecursion Fits (map (unlinking p) us) = All-map Fits (unlinking p) us
      (All-weaker (λ l. In l here.links) (λ l. Fits (unlinking p l))
      (λ l i. (two_types l (All-In JoinsUuids l here.links links_join i), refl)) us unlinks_are) in
      let b : AllByRecursion Fits (map (deleting p) ds) = All-map Fits (deleting p) ds
      (All-weaker (λ id. In id (identities here.items)) (λ id. Fits (deleting p id))
      (λ id i. (and_from (is_uuid p) (is_uuid id) p_is_uuid (identity_uuid id i), refl)) ds deletes_are) in
      let c : AllByRecursion Fits (map (adding p) as') = All-map Fits (adding p) as'
      (All-weaker (λ i. In i (new_items names file)) (λ i. Fits (adding p i))
      (λ i j. (
        and_from (is_uuid p) (is_uuid i.identity) p_is_uuid
            (All-In (λ x. IsUuid x.identity) i (new_items names file) (uuids_new names file name_uuids) j),
        refl,
      )) as'
      adds_are) in
      let d : AllByRecursion Fits (map (linking p) ls) = All-map Fits (linking p) ls
      (All-weaker (λ l. In l (beyond here.links linked_in)) (λ l. Fits (linking p l))
      (λ l i. (two_types l (All-In JoinsUuids l linked_in file_links_join (in_file l i).0), refl)) ls
      links_are) in
      let all : AllByRecursion Fits (commands p changes.parts) =
      All-append Fits (map (unlinking p) us ++ map (deleting p) ds ++ map (adding p) as') (map (linking p) ls)
      (All-append Fits (map (unlinking p) us ++ map (deleting p) ds) (map (adding p) as')
      (All-append Fits (map (unlinking p) us) (map (deleting p) ds) a b) c) d in
      subst (AreWithin p) (sym changes.asked) (All-map (λ q. HasTypes q.command × IsWithin p q.command)
      (request_of p ticket moment) (commands p changes.parts) all)
    where
      identity_uuid : (id : List ℕ) → In id (identities here.items) → IsUuid id
      identity_uuid id i = let it = In-of_map (λ x. x.identity) id here.items i in subst IsUuid it.2
          (All-In (λ j. IsUuid j.identity) it.0 here.items kept.uuids it.1)

  -- ---- in a closed form

  abbrev pub items_made : List Item
  items_made = all_put item_key changes.parts.adds.items (items_left changes.parts here.items)

  abbrev pub links_made : List Relation
  links_made = all_put link_key changes.parts.links.items (links_left changes.parts here.links)

  pub items_are : items_through requests here.items ≡ items_made
  items_are = ap (λ qs. items_through qs here.items) changes.asked
      ∙ items_closed (request_of p ticket moment) (λ c. refl) p changes.parts.unlinks.items
      changes.parts.deletes.items changes.parts.adds.items changes.parts.links.items here.items

  pub links_through_are : links_through requests here.links ≡ links_made
  links_through_are = ap (λ qs. links_through qs here.links) changes.asked
      ∙ links_closed (request_of p ticket moment) (λ c. refl) p changes.parts.unlinks.items
      changes.parts.deletes.items changes.parts.adds.items changes.parts.links.items here.links

  -- ---- after a run

  module _ (new : AreNew w requests) (replies : List Reply) (next : World) (run : Run w requests replies next)
      (given : AreGiven replies) where
    pub stage : Stage w next p requests (items_through requests here.items) (links_through requests here.links)
    stage = run_stage w w p [] here.items here.links live (begins w p register) requests replies next within
        new.unkept new.apart run given

    kept_next : IsKeptPackage next (holdings next p)
    kept_next = kept_at next p stage.register (stage.lives p ∙ live)

    pub order_items : IsArranged item_key items_made
    order_items = subst (IsArranged item_key) (stage.items_are ∙ items_are) kept_next.items

    pub distinct_items : IsDistinct bytes_eq (identities items_made)
    distinct_items = subst (λ l. IsDistinct bytes_eq (identities l)) (stage.items_are ∙ items_are)
        kept_next.identities

    pub order_links : IsArranged link_key links_made
    order_links = subst (IsArranged link_key) (stage.links_are ∙ links_through_are) kept_next.links

    pub makes : (items : List Item) (links : List Relation) → items_made ≡ items → links_made ≡ links
        → HoldsNow w next p items links (length requests)
    makes items links a b =
        subst (λ l. HoldsNow w next p items l (length requests)) (links_through_are ∙ b)
        (subst (λ l. HoldsNow w next p l (links_through requests here.links) (length requests)) (items_are ∙ a)
        (holds_now w next p requests (items_through requests here.items) (links_through requests here.links) stage))

-- ---- where nothing is taken away

all_stay : {X : Type 0} (key : X → List ℕ) (ks : List (List ℕ)) (xs : List X) → ks ≡ []
    → without key ks xs ≡ xs
all_stay key ks xs none = ap (λ l. without key l xs) none ∙ stay xs
  where
    stay : (ys : List _) → without key [] ys ≡ ys
    stay [] = refl
    stay (y ∷ ys) = ap (λ l. y ∷ l) (stay ys)

-- a list of which some are put in is the whole in order
put_is_whole : {X : Type 0} (key : X → List ℕ) (new adds xs : List X) → IsPermutation new adds
    → IsArranged key (all_put key adds xs) → all_put key adds xs ≡ arranged key (new ++ xs)
put_is_whole key new adds xs moves order =
    one_list key (all_put key adds xs) (new ++ xs) order
    (λ k. let f : _ → ℕ = λ y. cond (bytes_eq (key y) k) 1 0 in
    omega (
      arith,
      counts_arranged key k (all_put key adds xs) order,
      sum_put key f adds xs,
      sum_by-IsPermutation f new
          adds moves,
      sum_by-append f new xs,
    ))
    (λ x i. elim (in_put key x adds xs i) [
      | inl a ↦ In-append x new xs (inl (moved x adds new (IsPermutation-sym new adds moves) a))
      | inr b ↦ In-append x new xs (inr b)
    ])
    (λ x i. elim (In-of_append x new xs i) [
      | inl a ↦ into_put key x adds xs (inl (moved x new adds moves a))
      | inr b ↦ into_put key x adds xs (inr b)
    ])

pub more_adds : MoreAdds
more_adds w p ticket moment file held requests replies next register live changes new run given =
    let x = holdings w p in
    let parts = changes.parts in
    let fl = changes.for_file.file_links in
    let fresh = new_items (names_in w p ticket file) file in
    let beyond' = beyond x.links fl in
    let same_items : items_left parts x.items ≡ x.items = all_stay (λ i. i.identity) parts.deletes.items x.items
    changes.for_file.deletes in
    let same_links : links_left parts x.links ≡ x.links = all_stay link_key (map link_key parts.unlinks.items) x.links
    (ap (map link_key) changes.for_file.unlinks) in
    makes w p ticket moment true file held requests register live changes new replies next run given
    (arranged item_key (fresh ++ x.items)) (arranged link_key (beyond' ++ x.links))
    (ap (all_put item_key parts.adds.items) same_items
    ∙ put_is_whole item_key fresh parts.adds.items x.items changes.for_file.adds
    (subst (λ l. IsArranged item_key (all_put item_key parts.adds.items l)) same_items
    (order_items w p ticket moment true file held requests register live changes new replies next run given)))
    (ap (all_put link_key parts.links.items) same_links
    ∙ put_is_whole link_key beyond' parts.links.items x.links changes.for_file.links
    (subst (λ l. IsArranged link_key (all_put link_key parts.links.items l)) same_links
    (order_links w p ticket moment true file held requests register live changes new replies next run given)))

-- ---- where the package is to hold what the file has

module _ (items : List Item) (file : List HeldItem) (ns : List Named) (adds : List Item)
    (distinct : IsDistinct bytes_eq (identities items))
    (zip : AllZip (HoldsUnder items) file ns) (moves : IsPermutation (new_items ns file) adds)
    (old_apart : IsDistinct bytes_eq (map (λ n. n.identity) (filter (λ n. not n.is_new) ns))) where
  abbrev left : List Item
  left = without (λ i. i.identity) (identities (gone ns items)) items

  abbrev whole : List Item
  whole = all_put item_key adds left

  is_named : Item → Bool
  is_named i = has (λ n. n.identity) i.identity ns

  -- an item that stays is one by which something is called
  stays : (i : Item) → In i left → In i items × (has (λ n. n.identity) i.identity ns ≡ true)
  stays i there =
      let it = of_filter (λ x. not (is_among (identities (gone ns items)) x.identity)) i items there in (
        it.0,
        elim (has (λ n. n.identity) i.identity ns) as (λ v. has (λ n. n.identity) i.identity ns ≡ v
            → v ≡ true) [
              | true ↦ λ _. refl
              | false ↦ λ none.
                  let gone_in : In i (gone ns items) = In-filter (λ x. not (has (λ n. n.identity) x.identity ns)) i
                  items
                  it.0 (ap not none) in
                  let among : is_among (identities (gone ns items)) i.identity ≡ true =
                  any_in (λ z. bytes_eq z i.identity) i.identity (identities (gone ns items))
                  (In-map (λ x. x.identity) i (gone ns items) gone_in) (bytes_eq_itself i.identity) in
                  absurd (true≢false (sym among ∙ not_true (is_among (identities (gone ns items)) i.identity) it.1))
            ] refl,
      )

  stay : (i : Item) → In i items → has (λ n. n.identity) i.identity ns ≡ true → In i left
  stay i there named = In-filter (λ x. not (is_among (identities (gone ns items)) x.identity)) i items there
      (elim (is_among (identities (gone ns items)) i.identity) as
      (λ v. is_among (identities (gone ns items)) i.identity ≡ v → not v ≡ true) [
        | false ↦ λ _. refl
        | true ↦ λ some.
            let it = any_at (λ z. bytes_eq z i.identity) (identities (gone ns items)) some in
            let j = In-of_map (λ x. x.identity) it.0 (gone ns items) it.1 in
            let g = of_filter (λ x. not (has (λ n. n.identity) x.identity ns)) j.0 items j.1 in
            let same : j.0.identity ≡ i.identity = j.2 ∙ (bytes_eq-Decides it.0 i.identity).0 it.2 in
            absurd (true≢false (sym (ap (λ k. has (λ n. n.identity) k ns) same ∙ named)
            ∙ not_true (has (λ n. n.identity) j.0.identity ns) g.1))
      ] refl)

  old_in : (h : HeldItem) (n : Named) → n.is_new ≡ false → In n ns → HoldsUnder items h n
      → In (record { identity = n.identity; content = h.content }) left
  old_in h n old there under = stay (record { identity = n.identity; content = h.content })
      (old_stands items h n old under)
      (any_in (λ m. bytes_eq m.identity n.identity) n ns there (bytes_eq_itself n.identity))

  -- each pair with its name among the names
  abbrev Beside : HeldItem → Named → Type 0
  Beside h n = HoldsUnder items h n × In n ns

  beside : (hs : List HeldItem) (ms : List Named) → AllZip (HoldsUnder items) hs ms
      → ((n : Named) → In n ms → In n ns) → AllZip Beside hs ms
  beside [] [] all sub = tt
  beside [] (m ∷ ms) all sub = absurd all
  beside (h ∷ hs) [] all sub = absurd all
  beside (h ∷ hs) (m ∷ ms) all sub = ((all.0, sub m (inl refl)), beside hs ms all.1 (λ n i. sub n (inr i)))

  zip_beside : AllZip Beside file ns
  zip_beside = beside file ns zip (λ n i. i)

  named_in : AllByRecursion (λ i. In i whole) (named_items ns file)
  named_in = each_named (λ i. In i whole) Beside (λ h n old it. into_put item_key
      (record { identity = n.identity; content = h.content }) adds left (inr (old_in h n old it.1 it.0))) file ns
      zip_beside
      (All-weaker (λ i. In i (new_items ns file)) (λ i. In i whole)
      (λ i j. into_put item_key i adds left (inl (moved i (new_items ns file) adds moves j))) (new_items ns file)
      (In-all (new_items ns file)))

  module _ (apart : IsDistinct bytes_eq (identities whole)) where
    in_named : (i : Item) → In i whole → In i (named_items ns file)
    in_named i there = elim (in_put item_key i adds left there) [
      | inl a ↦ new_named ns file i (moved i adds (new_items ns file)
          (IsPermutation-sym (new_items ns file) adds moves) a)
      | inr b ↦
          let it = stays i b in
          let n = any_at (λ m. bytes_eq m.identity i.identity) ns it.1 in
          let h = paired (HoldsUnder items) file ns n.0 zip n.1 in
          let named : Item = record { identity = n.0.identity; content = h.0.content } in
          let same : named ≡ i = two_are_one (λ x. bytes_eq x.identity i.identity) named i whole
          (distinct_counts (λ x. x.identity) i.identity whole apart)
          (All-In (λ x. In x whole) named (named_items ns file) named_in h.1) there n.2 (bytes_eq_itself i.identity) in
          subst (λ x. In x (named_items ns file)) same h.1
    ]

    -- no identity is named twice
    pub named_once : (k : List ℕ) → count_by (λ i. bytes_eq i.identity k) (named_items ns file) ≤ 1
    named_once k =
        let f : Item → ℕ = λ i. cond (bytes_eq i.identity k) 1 0 in
        let old : List Named = filter (λ n. not n.is_new) ns in
        let all : count_by (λ i. bytes_eq i.identity k) whole ≤ 1 =
        distinct_counts (λ x. x.identity) k whole apart in
        let sum = sum_put item_key f adds left in
        let same = sum_by-IsPermutation f (new_items ns file) adds moves in
        let count = named_count (HoldsUnder items) k file ns zip in
        let few : count_by (λ n. bytes_eq n.identity k) old ≤ 1 =
        distinct_counts (λ n. n.identity) k old old_apart in
        elim (list_any (λ n. bytes_eq n.identity k) old) as (λ v. list_any (λ n. bytes_eq n.identity k) old ≡ v
        → count_by (λ i. bytes_eq i.identity k) (named_items ns file) ≤ 1) [
          | true ↦ λ some.
              let n = any_at (λ m. bytes_eq m.identity k) old some in
              let o = of_filter (λ m. not m.is_new) n.0 ns n.1 in
              let z = zip_at (HoldsUnder items) file ns n.0 zip o.0 in
              let i : Item = record { identity = n.0.identity; content = z.0.content } in
              let held : In i left = old_in z.0 n.0 (not_true n.0.is_new o.1) o.0 z.1 in
              omega (
                arith,
                all,
                sum,
                same,
                count,
                few,
                any_some (λ x. bytes_eq x.identity k) left
                    (any_in (λ x. bytes_eq x.identity k) i left held n.2),
              )
          | false ↦ λ none. omega (arith, all, sum, same, count, any_none (λ n. bytes_eq n.identity k) old none)
        ] refl

    pub holds_named : IsArranged item_key whole → whole ≡ arranged item_key (named_items ns file)
    holds_named order = one_list item_key whole (named_items ns file) order
        (λ k. omega (
          arith,
          count_le (λ i. bytes_eq (item_key i) k) (λ i. bytes_eq i.identity (drop 1 k))
              (λ i e. (bytes_eq-Decides i.identity (drop 1 k)).1 (ap (drop 1) ((bytes_eq-Decides (item_key i) k).0 e)))
              (named_items ns file),
          named_once (drop 1 k),
        ))
        in_named (λ i j. All-In (λ x. In x whole) i (named_items ns file) named_in j)

-- the links that stay and those that come are those of the file
module _ (linked fl adds : List Relation) (join : AllByRecursion JoinsUuids linked)
    (join_file : AllByRecursion JoinsUuids fl) (moves : IsPermutation (beyond linked fl) adds) where
  abbrev links_stay : List Relation
  links_stay = without link_key (map link_key (beyond fl linked)) linked

  abbrev all_links : List Relation
  all_links = all_put link_key adds links_stay

  once_in : (l : Relation) → In l fl → In l (each_once fl)
  once_in l i =
      let y = once_for_each l fl i in
      subst (λ z. In z (each_once fl)) (same_link y.0 l (All-In JoinsUuids y.0 fl join_file (each_of_once y.0 fl y.1))
      (All-In JoinsUuids l fl join_file i) y.2) y.1

  -- a link that has the key of another is it
  has_is : (l : Relation) (ls : List Relation) → JoinsUuids l → AllByRecursion JoinsUuids ls
      → has link_key (link_key l) ls ≡ true → In l ls
  has_is l ls joins all some =
      let it = any_at (λ x. bytes_eq (link_key x) (link_key l)) ls some in
      subst (λ z. In z ls) (same_link it.0 l (All-In JoinsUuids it.0 ls all it.1) joins
      ((bytes_eq-Decides (link_key it.0) (link_key l)).0 it.2)) it.1

  to_file : (l : Relation) → In l all_links → In l (each_once fl)
  to_file l i = elim (in_put link_key l adds links_stay i) [
    | inl a ↦ once_in l (of_filter (λ x. not (has link_key (link_key x) linked)) l fl
        (moved l adds (beyond linked fl) (IsPermutation-sym (beyond linked fl) adds moves) a)).0
    | inr b ↦
        let it = of_filter (λ x. not (is_among (map link_key (beyond fl linked)) (link_key x))) l linked b in
        elim (has link_key (link_key l) fl) as (λ v. has link_key (link_key l) fl ≡ v → In l (each_once fl)) [
          | true ↦ λ some. once_in l (has_is l fl (All-In JoinsUuids l linked join it.0) join_file some)
          | false ↦ λ none.
              let out : In l (beyond fl linked) = In-filter (λ x. not (has link_key (link_key x) fl)) l linked it.0
              (ap not none) in
              let among : is_among (map link_key (beyond fl linked)) (link_key l) ≡ true =
              any_in (λ z. bytes_eq z (link_key l)) (link_key l) (map link_key (beyond fl linked))
              (In-map link_key l (beyond fl linked) out) (bytes_eq_itself (link_key l)) in
              absurd (true≢false (sym among ∙ not_true (is_among (map link_key (beyond fl linked)) (link_key l))
              it.1))
        ] refl
  ]

  of_file : (l : Relation) → In l (each_once fl) → In l all_links
  of_file l i =
      let there : In l fl = each_of_once l fl i in
      let joins : JoinsUuids l = All-In JoinsUuids l fl join_file there in
      elim (has link_key (link_key l) linked) as (λ v. has link_key (link_key l) linked ≡ v → In l all_links) [
        | true ↦ λ some. into_put link_key l adds links_stay
            (inr (In-filter (λ x. not (is_among (map link_key (beyond fl linked)) (link_key x))) l linked
            (has_is l linked joins join some) (stays l there)))
        | false ↦ λ none. into_put link_key l adds links_stay
            (inl (moved l (beyond linked fl) adds moves (In-filter (λ x. not (has link_key (link_key x) linked)) l fl
            there (ap not none))))
      ] refl
    where
      stays : (x : Relation) → In x fl → not (is_among (map link_key (beyond fl linked)) (link_key x)) ≡ true
      stays x there =
          elim (is_among (map link_key (beyond fl linked)) (link_key x)) as
          (λ v. is_among (map link_key (beyond fl linked)) (link_key x) ≡ v → not v ≡ true) [
            | false ↦ λ _. refl
            | true ↦ λ some.
                let it = any_at (λ z. bytes_eq z (link_key x)) (map link_key (beyond fl linked)) some in
                let y = In-of_map link_key it.0 (beyond fl linked) it.1 in
                let g = of_filter (λ z. not (has link_key (link_key z) fl)) y.0 linked y.1 in
                let same : link_key x ≡ link_key y.0 = sym (y.2 ∙ (bytes_eq-Decides it.0 (link_key x)).0 it.2) in
                absurd (true≢false (sym (any_in (λ z. bytes_eq (link_key z) (link_key y.0)) x fl there
                ((bytes_eq-Decides (link_key x) (link_key y.0)).1 same))
                ∙ not_true (has link_key (link_key y.0) fl) g.1))
          ] refl

  pub holds_links : IsArranged link_key all_links → all_links ≡ arranged link_key (each_once fl)
  holds_links order = one_list link_key all_links (each_once fl) order (λ k. once_count k fl) to_file of_file

pub changes_make : ChangesMake
changes_make w p ticket moment file held requests replies next register live changes new run given =
    let x = holdings w p in
    let parts = changes.parts in
    let fl = changes.for_file.file_links in
    let ns = names_in w p ticket file in
    let k = kept_at w p register live in
    let left_is : items_left parts x.items ≡ without (λ i. i.identity) (identities (gone ns x.items)) x.items =
    ap (λ l. without (λ i. i.identity) l x.items) changes.for_file.deletes in
    let stay_is : links_left parts x.links ≡ without link_key (map link_key (beyond fl x.links)) x.links =
    ap (λ l. without link_key (map link_key l) x.links) changes.for_file.unlinks in
    makes w p ticket moment false file held requests register live changes new replies next run given
    (arranged item_key (named_items ns file)) (arranged link_key (each_once fl))
    (ap (all_put item_key parts.adds.items) left_is
    ∙ holds_named x.items file ns parts.adds.items k.identities (old_names p ticket x.items file)
    changes.for_file.adds (old_names_differ p ticket x.items file k.identities)
    (subst (λ l. IsDistinct bytes_eq (identities (all_put item_key parts.adds.items l))) left_is
    (distinct_items w p ticket moment false file held requests register live changes new replies next run given))
    (subst (λ l. IsArranged item_key (all_put item_key parts.adds.items l)) left_is
    (order_items w p ticket moment false file held requests register live changes new replies next run given)))
    (ap (all_put link_key parts.links.items) stay_is
    ∙ holds_links x.links fl parts.links.items (links_join w p ticket moment false file held requests register live
    changes) (file_links_join w p ticket moment false file held requests register live changes)
    changes.for_file.links
    (subst (λ l. IsArranged link_key (all_put link_key parts.links.items l)) stay_is
    (order_links w p ticket moment false file held requests register live changes new replies next run given)))
