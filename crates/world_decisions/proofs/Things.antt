-- The things of a selection, each looked up by its identity and all sorted, are those of the cut that it names.
use Rattle.std.specs.Prelude.{◌≡◌, ◌<◌, ◌+◌, ℕ, List, [], ◌∷◌, ◌++◌, map, length, Option}
use Rattle.std.specs.Prelude.{Some, bytes_eq, option_map}
use Rattle.std.specs.Prelude.{IsPermutation, Contains}
use Rattle.std.proofs.Common.{sym, ap, subst, ◌∙◌, take, get_or}
use Rattle.std.specs.List.{IsDistinct}
use Rattle.std.proofs.lemmas.List.{append-nil, map_more, map_push}
use Rattle.std.proofs.lemmas.List.Sorted.{IsPermutation-sym}
use Rattle.sheet_types.specs.Cut.{Cut, identities, moved_of}
use Rattle.sheet_types.specs.Ordered.{arranged, IsArranged}
use Rattle.sheet_types.specs.World.{Package, item_of, item_moved, link_moved, moved_key}
use Rattle.sheet_types.specs.declared.command.Item.{Item}
use Rattle.sheet_types.specs.declared.receipt.Moved.{Moved}
use Rattle.sheet_types.proofs.Basics.{bytes_eq_itself}
use Rattle.sheet_types.proofs.Distinct.{distinct_counts}
use Rattle.sheet_types.proofs.Found.{found, All-found}
use Rattle.sheet_types.proofs.Order.{All-of_arranged}
use Rattle.sheet_types.proofs.Same.{In, In-all, All-In, In-map, In-of_map, any_in, two_are_one, same_list}
use Rattle.identity_register.specs.declared.selection.Selection.{Selection}
use Rattle.identity_register.proofs.Finding.{contained, in_arranged, moved}
use Rattle.sheet_laws.proofs.Facts.{order_moved}
use Rattle.register_lending.specs.Selecting.{IsSelectionOf, IsPart}

-- ---- one after the other

-- what a package says of an identity, as a receipt names it
abbrev pub told_of : Package → List ℕ → Option Moved
told_of p id = option_map item_moved (item_of p id)

-- one identity more has its thing
pub one_more : (f : List ℕ → Option Moved) (ids : List (List ℕ)) (n : ℕ) (d : List ℕ) (things : List Moved)
    (thing : Moved) → n < length ids → map f (take n ids) ≡ map Some things → f (get_or ids n d) ≡ Some thing
    → map f (take (n + 1) ids) ≡ map Some (things ++ thing ∷ [])
one_more f ids n d things thing less so is =
    map_more f ids n d less ∙ ap (λ l. l ++ f (get_or ids n d) ∷ []) so
    ∙ ap (λ o. map Some things ++ o ∷ []) is
    ∙ sym (map_push (λ m. Some m) things thing)

-- ---- in their order

into_arranged : {X : Type 0} (key : X → List ℕ) (xs : List X) (x : X) → In x xs → In x (arranged key xs)
into_arranged key xs x i = All-In (λ y. In y (arranged key xs)) x xs
    (All-of_arranged key (λ y. In y (arranged key xs)) xs (In-all (arranged key xs))) i

-- the same names in another order
other_order : (xs ys : List (List ℕ)) (x : List ℕ) → arranged (λ id. id) xs ≡ arranged (λ id. id) ys
    → In x xs → In x ys
other_order xs ys x same i = in_arranged (λ id. id) ys x (subst (In x) same (into_arranged (λ id. id) xs x i))

-- an item of a package is found under its identity
item_there : (p : Package) (i : Item) → IsDistinct bytes_eq (identities p.items) → In i p.items
    → item_of p i.identity ≡ Some i
item_there p i distinct k =
    let here = bytes_eq_itself i.identity in
    let it = found (λ x. bytes_eq x.identity i.identity) p.items
    (any_in (λ x. bytes_eq x.identity i.identity) i p.items k here) in
    let at = All-found (λ x. In x p.items) (λ x. bytes_eq x.identity i.identity) it.0 p.items it.1 (In-all p.items) in
    it.1 ∙ ap Some (two_are_one (λ x. bytes_eq x.identity i.identity) it.0 i p.items
    (distinct_counts (λ x. x.identity) i.identity p.items distinct) at.0 k at.1 here)

module _ (p : Package) (c : Cut) (s : Selection) (is : IsSelectionOf c s) (part : IsPart c p)
    (distinct : IsDistinct bytes_eq (identities p.items)) where
  told_there : (i : Item) → In i c.items → told_of p i.identity ≡ Some (item_moved i)
  told_there i k = ap (option_map item_moved) (item_there p i distinct
      (contained p.items i (All-In (λ j. Contains p.items j) i c.items part.items k)))

  module _ (told things : List Moved) (each : map (told_of p) s.identities.items ≡ map Some told)
      (order : IsPermutation told things) where
    -- each thing is of an item of the cut
    of_cut : (m : Moved) → In m things → In m (map item_moved c.items)
    of_cut m k =
        let one : In (Some m) (map (told_of p) s.identities.items) =
        subst (In (Some m)) (sym each) (In-map (λ x. Some x) m told
        (moved m things told (IsPermutation-sym told things order) k)) in
        let named = In-of_map (told_of p) (Some m) s.identities.items one in
        let item = In-of_map (λ (i : Item). i.identity) named.0 c.items
        (other_order s.identities.items (identities c.items) named.0 is.identities named.1) in
        let same : Some (item_moved item.0) ≡ Some m = sym (told_there item.0 item.1) ∙ ap (told_of p) item.2
        ∙ named.2 in
        let it : item_moved item.0 ≡ m = cc in
        subst (λ x. In x (map item_moved c.items)) it (In-map item_moved item.0 c.items item.1)

    -- and each item of it has its thing
    of_things : (m : Moved) → In m (map item_moved c.items) → In m things
    of_things m k =
        let item = In-of_map item_moved m c.items k in
        let named : In item.0.identity s.identities.items = other_order (identities c.items) s.identities.items
        item.0.identity (sym is.identities) (In-map (λ (i : Item). i.identity) item.0 c.items item.1) in
        let one : In (told_of p item.0.identity) (map Some told) =
        subst (In (told_of p item.0.identity)) each (In-map (told_of p) item.0.identity s.identities.items
        named) in
        let at = In-of_map (λ x. Some x) (told_of p item.0.identity) told one in
        let same : Some at.0 ≡ Some m = at.2 ∙ told_there item.0 item.1 ∙ ap (λ x. Some x) item.2 in
        let it : at.0 ≡ m = cc in
        subst (λ x. In x things) it (moved at.0 told things order at.1)

    pub things_of_cut : IsArranged moved_key things → things ++ map link_moved s.links.items
        ≡ moved_of c.items c.links
    things_of_cut sorted =
        let ordered : IsArranged moved_key (map item_moved c.items) =
        subst (IsArranged moved_key) (append-nil (map item_moved c.items))
        (order_moved c.items [] part.item_order tt) in
        ap (λ l. l ++ map link_moved s.links.items) (same_list moved_key things (map item_moved c.items) sorted
        ordered of_cut of_things) ∙ ap (λ ls. map item_moved c.items ++ map link_moved ls) is.links
