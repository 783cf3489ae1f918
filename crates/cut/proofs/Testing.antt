-- Tests of a list's elements, and of what is made of it.
use Rattle.std.specs.Prelude.{◌≡◌, ℕ, Bool, true, false, cond, ◌&&◌, ◌||◌, List, [], ◌∷◌, map}
use Rattle.std.specs.Prelude.{filter, flat_map, refl}
use Rattle.std.specs.Prelude.{bytes_eq}
use Rattle.std.proofs.Common.{sym, ap, ◌∙◌}
use Rattle.std.proofs.lemmas.Bool.{and_from}
use Rattle.std.proofs.lemmas.List.Folds.{list_any-append}
use Rattle.std.specs.List.{list_any, list_all, AllByRecursion}
use Rattle.sheet_types.specs.Ordered.{is_among}
use Rattle.sheet_types.specs.Cut.{has_end, touches}
use Rattle.sheet_types.specs.declared.command.Relation.{Relation}
use Rattle.sheet_types.proofs.Basics.{bytes_eq_swap}

-- tests that imply each other are one
pub both_ways : (a b : Bool) → (a ≡ true → b ≡ true) → (b ≡ true → a ≡ true) → a ≡ b
both_ways true b h g = sym (h refl)
both_ways false true h g = g refl
both_ways false false h g = refl

-- tests that agree on each element
pub any_same : {X : Type 0} (p q : X → Bool) (xs : List X) → ((x : X) → p x ≡ q x)
    → list_any p xs ≡ list_any q xs
any_same p q xs h = ap (λ t. list_any t xs) (λ n. λ x. h x n)

pub filter_alike : {X : Type 0} (p q : X → Bool) (xs : List X) → ((x : X) → p x ≡ q x)
    → filter p xs ≡ filter q xs
filter_alike p q xs h = ap (λ t. filter t xs) (λ n. λ x. h x n)

shuffle : (a b c d : Bool) → ((a || b) || (c || d)) ≡ ((a || c) || (b || d))
shuffle true b c d = refl
shuffle false true true d = refl
shuffle false true false d = refl
shuffle false false c d = refl

-- one test or the other
pub any_or : {X : Type 0} (p q : X → Bool) (xs : List X) → list_any (λ x. p x || q x) xs
    ≡ (list_any p xs || list_any q xs)
any_or p q [] = refl
any_or p q (x ∷ xs) = ap (λ b. (p x || q x) || b) (any_or p q xs)
    ∙ shuffle (p x) (q x) (list_any p xs) (list_any q xs)

-- a test that none passes
pub any_none : {X : Type 0} (xs : List X) → list_any (λ x. false) xs ≡ false
any_none [] = refl
any_none (x ∷ xs) = any_none xs

-- of what another test takes
pub any_filtered : {X : Type 0} (q t : X → Bool) (xs : List X)
    → list_any q (filter t xs) ≡ list_any (λ x. t x && q x) xs
any_filtered q t [] = refl
any_filtered q t (x ∷ xs) = elim (t x) as (λ v. list_any q (cond v (x ∷ filter t xs) (filter t xs))
    ≡ ((v && q x) || list_any (λ y. t y && q y) xs)) [
      | true ↦ ap (λ b. q x || b) (any_filtered q t xs)
      | false ↦ any_filtered q t xs
    ]

-- of what a map makes
pub any_mapped : {X Y : Type 0} (q : Y → Bool) (f : X → Y) (xs : List X)
    → list_any q (map f xs) ≡ list_any (λ x. q (f x)) xs
any_mapped q f [] = refl
any_mapped q f (x ∷ xs) = ap (λ b. q (f x) || b) (any_mapped q f xs)

-- who is among those of some elements
pub among_those : {X : Type 0} (f : X → List ℕ) (t : X → Bool) (xs : List X) (id : List ℕ)
    → is_among (map f (filter t xs)) id ≡ list_any (λ x. t x && bytes_eq (f x) id) xs
among_those f t xs id = any_mapped (λ k. bytes_eq k id) f (filter t xs) ∙ any_filtered (λ x. bytes_eq (f x) id) t xs

-- each passes
pub all_from : {X : Type 0} (p : X → Bool) (xs : List X) → AllByRecursion (λ x. p x ≡ true) xs
    → list_all p xs ≡ true
all_from p [] h = refl
all_from p (x ∷ xs) h = and_from (p x) (list_all p xs) h.0 (all_from p xs h.1)

-- ---- the links of each of some items

nobody_touches : (q : Relation → Bool) (links : List Relation)
    → list_any (λ l. q l && touches (is_among []) l) links ≡ false
nobody_touches q links = any_same (λ l. q l && touches (is_among []) l) (λ l. false) links (λ l. never (q l))
    ∙ any_none links
  where
    never : (a : Bool) → (a && false) ≡ false
    never true = refl
    never false = refl

one_more : (q a b c d : Bool) → (((a || b) && q) || (q && (c || d))) ≡ (q && ((a || c) || (b || d)))
one_more true true b c d = refl
one_more true false true true d = refl
one_more true false true false d = refl
one_more true false false c d = refl
one_more false true b c d = refl
one_more false false true c d = refl
one_more false false false c d = refl

-- they are the links that touch these
pub any_links : (q : Relation → Bool) (links : List Relation) (ids : List (List ℕ))
    → list_any q (flat_map (λ id. filter (has_end id) links) ids)
    ≡ list_any (λ l. q l && touches (is_among ids) l) links
any_links q links [] = sym (nobody_touches q links)
any_links q links (id ∷ ids) =
    list_any-append q (filter (has_end id) links) (flat_map (λ k. filter (has_end k) links) ids)
    ∙ ap (λ b. b || list_any q (flat_map (λ k. filter (has_end k) links) ids)) (any_filtered q (has_end id) links)
    ∙ ap (λ b. list_any (λ l. has_end id l && q l) links || b) (any_links q links ids)
    ∙ sym (any_or (λ l. has_end id l && q l) (λ l. q l && touches (is_among ids) l) links)
    ∙ any_same (λ l. (has_end id l && q l) || (q l && touches (is_among ids) l))
    (λ l. q l && touches (is_among (id ∷ ids)) l) links
    (λ l. one_more (q l) (bytes_eq l.base id) (bytes_eq l.other id) (is_among ids l.base) (is_among ids l.other)
    ∙ ap (λ b. q l && ((b || is_among ids l.base) || (bytes_eq l.other id || is_among ids l.other)))
    (bytes_eq_swap l.base id)
    ∙ ap (λ b. q l && ((bytes_eq id l.base || is_among ids l.base) || (b || is_among ids l.other)))
    (bytes_eq_swap l.other id))
