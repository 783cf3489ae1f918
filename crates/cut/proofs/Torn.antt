-- Which item a strict cut would tear, by the links of what was gathered; and that what is brought along is of items.
use Rattle.std.specs.Prelude.{◌≡◌, ℕ, Bool, true, false, cond, not, ◌&&◌, ◌||◌, List, [], ◌∷◌}
use Rattle.std.specs.Prelude.{filter, flat_map, refl}
use Rattle.std.specs.Prelude.{bytes_eq, Option, None, Some}
use Rattle.std.proofs.Common.{sym, ap, ap₂, subst, ◌∙◌}
use Rattle.std.proofs.lemmas.Bool.{true≢false, false≢true, and_parts, and_from}
use Rattle.std.proofs.lemmas.List.Folds.{list_any-append}
use Rattle.std.proofs.lemmas.Slice.Eq.{bytes_eq-Decides}
use Rattle.std.specs.Bool.{beq}
use Rattle.std.specs.List.{list_any, AllByRecursion}
use Rattle.std.specs.Option.{option_to_list}
use Rattle.sheet_types.specs.Ordered.{is_among}
use Rattle.sheet_types.specs.Cut.{identities, has_end, touches, is_torn, strict_set, torn_item, media_linked}
use Rattle.sheet_types.specs.Register.{HasEnds}
use Rattle.sheet_types.specs.World.{Package, base_kind, other_kind}
use Rattle.sheet_types.specs.declared.command.Relation.{Relation}
use Rattle.sheet_types.specs.declared.command.Mode.{Mode}
use Rattle.sheet_types.specs.declared.command.Mode.TheVariants.{Strict, Follow}
use Rattle.sheet_types.proofs.Basics.{or-false, or-true}
use Rattle.sheet_types.proofs.Every.{All-weaker}
use Rattle.sheet_types.proofs.Same.{In, any_at, All-In}
use Rattle.sheet_laws.proofs.Follow.{follow_is_least}
use Rattle.identity_register.specs.Reach.{links_of}
use Rattle.cut.specs.Gathering.{AreSame, IsLeast, torn_end, torn_ends, brought_along, HasStart, leads_to_media}
use Rattle.cut.proofs.Following.{item_there, among_all}
use Rattle.cut.proofs.Leasts.{least_is, one_least}
use Rattle.cut.proofs.Testing.{any_same, any_links, any_mapped, any_none, among_those, all_from}

-- of lists in a row
any_flat : {X Y : Type 0} (q : Y → Bool) (f : X → List Y) (xs : List X)
    → list_any q (flat_map f xs) ≡ list_any (λ x. list_any q (f x)) xs
any_flat q f [] = refl
any_flat q f (x ∷ xs) = list_any-append q (f x) (flat_map f xs) ∙ ap (λ b. list_any q (f x) || b) (any_flat q f xs)

-- a test that holds of all or of none
any_fixed : {X : Type 0} (c : Bool) (q : X → Bool) (xs : List X)
    → list_any (λ x. c && q x) xs ≡ (c && list_any q xs)
any_fixed true q xs = refl
any_fixed false q xs = any_none xs

-- the end that is torn, where this is it
torn_at : (sb sm si eb em : Bool) → (eb ≡ true → sb ≡ si) → (em ≡ true → sm ≡ si)
    → (b m : List ℕ) (q : List ℕ → Bool)
    → q b ≡ eb → q m ≡ em
    → list_any q (option_to_list (cond sb (cond sm None (Some b)) (cond sm (Some m) None)))
    ≡ (si && ((eb || em) && ((sb || sm) && not (sb && sm))))
torn_at true true true true em h g b m q e f = refl
torn_at true true true false true h g b m q e f = refl
torn_at true true true false false h g b m q e f = refl
torn_at true true false eb em h g b m q e f = refl
torn_at true false true true em h g b m q e f = or-false (q b) ∙ e
torn_at true false true false true h g b m q e f = absurd (false≢true (g refl))
torn_at true false true false false h g b m q e f = or-false (q b) ∙ e
torn_at true false false true em h g b m q e f = absurd (true≢false (h refl))
torn_at true false false false em h g b m q e f = or-false (q b) ∙ e
torn_at false true true eb true h g b m q e f = absurd_or eb
  where
    absurd_or : (eb : Bool) → list_any q (m ∷ []) ≡ (true && ((eb || true) && true))
    absurd_or true = or-false (q m) ∙ f
    absurd_or false = or-false (q m) ∙ f
torn_at false true true true false h g b m q e f = absurd (false≢true (h refl))
torn_at false true true false false h g b m q e f = or-false (q m) ∙ f
torn_at false true false eb true h g b m q e f = absurd (true≢false (g refl))
torn_at false true false eb false h g b m q e f = or-false (q m) ∙ f
torn_at false false true true em h g b m q e f = refl
torn_at false false true false true h g b m q e f = refl
torn_at false false true false false h g b m q e f = refl
torn_at false false false eb em h g b m q e f = refl

-- the torn ends of a link are of the set, and the link is torn
torn_end_is : (set : List ℕ → Bool) (id : List ℕ) (l : Relation)
    → is_among (option_to_list (torn_end set l)) id ≡ (set id && (has_end id l && is_torn set l))
torn_end_is set id l = torn_at (set l.base) (set l.other) (set id) (bytes_eq l.base id) (bytes_eq l.other id)
    (λ e. ap set ((bytes_eq-Decides l.base id).0 e)) (λ e. ap set ((bytes_eq-Decides l.other id).0 e)) l.base l.other
    (λ k. bytes_eq k id) refl refl

torn_touches : (s h t u : Bool) → ((s && (h && (t && u))) && t) ≡ (s && (h && (t && u)))
torn_touches true true true true = refl
torn_touches true true true false = refl
torn_touches true true false u = refl
torn_touches true false t u = refl
torn_touches false h t u = refl

-- the torn ends of the links of all items of the set, by one of them
pub torn_among : (p : Package) (set : List ℕ → Bool) (order : List (List ℕ))
    → ((id : List ℕ) → is_among order id ≡ set id) → (id : List ℕ)
    → is_among (torn_ends set (flat_map (links_of p) order)) id
    ≡ (set id && list_any (λ l. has_end id l && is_torn set l) p.links)
torn_among p set order same id =
    any_flat (λ k. bytes_eq k id) (λ l. option_to_list (torn_end set l)) (flat_map (links_of p) order)
    ∙ any_same (λ l. is_among (option_to_list (torn_end set l)) id) (λ l. set id && (has_end id l && is_torn set l))
    (flat_map (links_of p) order) (λ l. torn_end_is set id l)
    ∙ any_links (λ l. set id && (has_end id l && is_torn set l)) p.links order
    ∙ any_same (λ l. (set id && (has_end id l && is_torn set l)) && touches (is_among order) l)
    (λ l. set id && (has_end id l && is_torn set l)) p.links
    (λ l. ap (λ t. (set id && (has_end id l && is_torn set l)) && touches t l) (λ n. λ k. same k n)
    ∙ torn_touches (set id) (has_end id l) (touches set l) (not (set l.base && set l.other)))
    ∙ any_fixed (set id) (λ l. has_end id l && is_torn set l) p.links

-- an end of a link is an item
pub end_there : (p : Package) → AllByRecursion (HasEnds p) p.links → (l : Relation) (id : List ℕ) → In l p.links
    → has_end id l ≡ true → is_among (identities p.items) id ≡ true
end_there p ends l id member at =
    let e : HasEnds p l = All-In (HasEnds p) l p.links ends member in
    elim (bytes_eq l.base id) as (λ v. bytes_eq l.base id ≡ v → (v || bytes_eq l.other id) ≡ true
    → is_among (identities p.items) id ≡ true) [
      | true ↦ λ same _. subst (λ k. is_among (identities p.items) k ≡ true) ((bytes_eq-Decides l.base id).0 same)
          (item_there p (base_kind l.mapping) l.base e.0)
      | false ↦ λ _ same. subst (λ k. is_among (identities p.items) k ≡ true)
          ((bytes_eq-Decides l.other id).0 same)
          (item_there p (other_kind l.mapping) l.other e.1)
    ] refl at

absorbed : (i x : Bool) → (x ≡ true → i ≡ true) → x ≡ (x && i)
absorbed i true h = sym (h refl)
absorbed i false h = refl

-- a test by identity, of an item
pub any_item : (t : List ℕ → Bool) (p : Package) (id : List ℕ)
    → list_any (λ i. t i.identity && bytes_eq i.identity id) p.items ≡ (t id && is_among (identities p.items) id)
any_item t p id =
    any_same (λ i. t i.identity && bytes_eq i.identity id) (λ i. t id && bytes_eq i.identity id) p.items
    (λ i. one i.identity)
    ∙ any_fixed (t id) (λ i. bytes_eq i.identity id) p.items
    ∙ ap (λ b. t id && b) (sym (any_mapped (λ k. bytes_eq k id) (λ i. i.identity) p.items))
  where
    never : (a b : Bool) → (a && false) ≡ (b && false)
    never true true = refl
    never true false = refl
    never false true = refl
    never false false = refl

    one : (k : List ℕ) → (t k && bytes_eq k id) ≡ (t id && bytes_eq k id)
    one k = elim (bytes_eq k id) as (λ v. bytes_eq k id ≡ v → (t k && v) ≡ (t id && v)) [
      | true ↦ λ e. ap (λ z. t z && true) ((bytes_eq-Decides k id).0 e)
      | false ↦ λ _. never (t k) (t id)
    ] refl

-- the torn item of the model is the least of them
pub torn_is : (p : Package) (start order : List (List ℕ)) (o : Option (List ℕ))
    → AllByRecursion (HasEnds p) p.links
    → ((id : List ℕ) → is_among order id ≡ strict_set p start id)
    → IsLeast (torn_ends (is_among order) (flat_map (links_of p) order)) o → o ≡ torn_item p start
torn_is p start order o ends same it = one_least (torn_ends (is_among order) (flat_map (links_of p) order)) torn o
    (torn_item p start) alike it (least_is torn)
  where
    set : List ℕ → Bool
    set = strict_set p start

    torn : List (List ℕ)
    torn = identities (filter (λ i. set i.identity && list_any (λ l. has_end i.identity l && is_torn set l) p.links)
        p.items)

    pair : List ℕ → Bool
    pair id = set id && list_any (λ l. has_end id l && is_torn set l) p.links

    -- one that has a torn link is an item
    item : (id : List ℕ) → pair id ≡ true → is_among (identities p.items) id ≡ true
    item id h =
        let some = any_at (λ l. has_end id l && is_torn set l) p.links
        (and_parts (set id) (list_any (λ l. has_end id l && is_torn set l) p.links) h).1 in
        end_there p ends some.0 id some.1 (and_parts (has_end id some.0) (is_torn set some.0) some.2).0

    alike : AreSame (torn_ends (is_among order) (flat_map (links_of p) order)) torn
    alike id =
        ap (λ t. is_among (torn_ends t (flat_map (links_of p) order)) id) (λ n. λ k. same k n)
        ∙ torn_among p set order same id
        ∙ absorbed (is_among (identities p.items) id) (pair id) (item id)
        ∙ sym (any_item pair p id)
        ∙ sym (among_those (λ i. i.identity) (λ i. pair i.identity) p.items id)

-- what is brought along is of items
pub brought_items : (p : Package) (mode : Mode) (start : List (List ℕ)) → HasStart p start → (id : List ℕ)
    → brought_along p mode start id ≡ true → is_among (identities p.items) id ≡ true
brought_items p Strict start has id h = elim (is_among start id) as
    (λ v. is_among start id ≡ v → (v || is_among (media_linked p start) id) ≡ true
    → is_among (identities p.items) id ≡ true) [
      | true ↦ λ e _. among_all start (is_among (identities p.items)) has.items id e
      | false ↦ λ _ media.
          let l = any_at (λ l. (leads_to_media l && is_among start l.base) && bytes_eq l.other id) p.links
          (sym (among_those (λ l. l.other) (λ l. leads_to_media l && is_among start l.base) p.links id)
          ∙ media) in
          end_there p has.ends l.0 id l.1 (ap (λ b. bytes_eq l.0.base id || b)
          (and_parts (leads_to_media l.0 && is_among start l.0.base) (bytes_eq l.0.other id) l.2).1
          ∙ or-true (bytes_eq l.0.base id))
    ] refl h
brought_items p Follow start has id h = follow_is_least p start (is_among (identities p.items)) id has.items
    (all_from (λ l. is_among (identities p.items) l.base && is_among (identities p.items) l.other) p.links
    (All-weaker (HasEnds p) (λ l. (is_among (identities p.items) l.base && is_among (identities p.items) l.other)
    ≡ true)
    (λ l e. and_from (is_among (identities p.items) l.base) (is_among (identities p.items) l.other)
    (item_there p (base_kind l.mapping) l.base e.0) (item_there p (other_kind l.mapping) l.other e.1)) p.links
    has.ends))
    has.items
    (all_from (λ l. beq (is_among (identities p.items) l.base) (is_among (identities p.items) l.other)) p.links
    (All-weaker (HasEnds p) (λ l. beq (is_among (identities p.items) l.base) (is_among (identities p.items) l.other)
    ≡ true)
    (λ l e. ap₂ beq (item_there p (base_kind l.mapping) l.base e.0)
    (item_there p (other_kind l.mapping) l.other e.1))
    p.links has.ends))
    h
