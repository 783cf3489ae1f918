-- Links that are sorted are a set, whichever way they came.
use Rattle.std.specs.Prelude.{◌≡◌, ℕ, ◌+◌, ◌<◌, Bool, true, false, cond, ◌&&◌, ◌||◌, List, []}
use Rattle.std.specs.Prelude.{◌∷◌, length, refl}
use Rattle.std.specs.Prelude.{bytes_eq}
use Rattle.std.proofs.Common.{suc, sym, ap, subst, ◌∙◌, get_or, arith}
use Rattle.std.specs.List.{list_any, dedup, dedup_from}
use Rattle.std.proofs.lemmas.Bool.{and_parts, and_from}
use Rattle.std.proofs.lemmas.Slice.Eq.{bytes_eq-Decides}
use Rattle.sheet_types.specs.Ordered.{IsArranged, is_before}
use Rattle.sheet_types.specs.World.{link_key, link_kind, kind_is}
use Rattle.sheet_types.specs.declared.command.Mapping.{Mapping}
use Rattle.sheet_types.specs.declared.command.Mapping.TheVariants.{TilesMedia, RowsMedia, RowsTiles}
use Rattle.sheet_types.specs.declared.command.Relation.{Relation}
use Rattle.sheet_types.proofs.Basics.{bytes_eq_itself, before_trans}
use Rattle.sheet_types.proofs.Every.{All-weaker}
use Rattle.sheet_types.proofs.Same.{In, any_in, any_at, same_list}
use Rattle.cut.specs.Gathering.{AreSameLinks}

-- keys that rise from each element to the next rise to each later one
pub rising : {X : Type 0} (key : X → List ℕ) (xs : List X) →
    ((k : ℕ) (d : X) → k + 1 < length xs → is_before (key (get_or xs k d)) (key (get_or xs (k + 1) d)) ≡ true)
    → IsArranged key xs
rising key [] h = tt
rising key (x ∷ []) h = (tt, tt)
rising key (x ∷ y ∷ ys) h =
    let rest = rising key (y ∷ ys) (λ k d less. let e : suc k + 1 ≡ suc (k + 1) =
    omega arith in subst (λ n. is_before (key (get_or (x ∷ y ∷ ys) (suc k) d)) (key (get_or (x ∷ y ∷ ys) n d))
    ≡ true) e (h (suc k) d (omega (arith, less)))) in
    let first : is_before (key x) (key y) ≡ true = h 0 x (omega arith) in
    ((first, All-weaker _ _ (λ z later. before_trans (key x) (key y) (key z) first later) ys rest.0), rest)

-- whether a link is this
abbrev link_is : Relation → Relation → Bool
link_is a b = (kind_is (link_kind a.mapping) (link_kind b.mapping) && bytes_eq a.base b.base) && bytes_eq a.other
    b.other

one_mapping : (a b : Mapping) → kind_is (link_kind a) (link_kind b) ≡ true → a ≡ b
one_mapping TilesMedia TilesMedia h = refl
one_mapping TilesMedia RowsMedia h = absurd cc
one_mapping TilesMedia RowsTiles h = absurd cc
one_mapping RowsMedia TilesMedia h = absurd cc
one_mapping RowsMedia RowsMedia h = refl
one_mapping RowsMedia RowsTiles h = absurd cc
one_mapping RowsTiles TilesMedia h = absurd cc
one_mapping RowsTiles RowsMedia h = absurd cc
one_mapping RowsTiles RowsTiles h = refl

this_kind : (a : Mapping) → kind_is (link_kind a) (link_kind a) ≡ true
this_kind TilesMedia = refl
this_kind RowsMedia = refl
this_kind RowsTiles = refl

itself : (a : Relation) → link_is a a ≡ true
itself a = and_from (kind_is (link_kind a.mapping) (link_kind a.mapping) && bytes_eq a.base a.base)
    (bytes_eq a.other a.other)
    (and_from (kind_is (link_kind a.mapping) (link_kind a.mapping)) (bytes_eq a.base a.base) (this_kind a.mapping)
    (bytes_eq_itself a.base)) (bytes_eq_itself a.other)

one_link : (a b : Relation) → link_is a b ≡ true → a ≡ b
one_link a b h =
    let outer = and_parts (kind_is (link_kind a.mapping) (link_kind b.mapping) && bytes_eq a.base b.base)
    (bytes_eq a.other b.other) h in
    let inner = and_parts (kind_is (link_kind a.mapping) (link_kind b.mapping)) (bytes_eq a.base b.base) outer.0 in
    let mapping : a.mapping ≡ b.mapping = one_mapping a.mapping b.mapping inner.0 in
    let base : a.base ≡ b.base = (bytes_eq-Decides a.base b.base).0 inner.1 in
    let media : a.other ≡ b.other = (bytes_eq-Decides a.other b.other).0 outer.1 in
    λ n. record { mapping = mapping n; base = base n; other = media n }

there : (xs ys : List Relation) → AreSameLinks xs ys → (l : Relation) → In l xs → In l ys
there xs ys same l i =
    let y = any_at (link_is l) ys (sym (same (link_is l)) ∙ any_in (link_is l) l xs i (itself l)) in
    subst (λ z. In z ys) (sym (one_link l y.0 y.2)) y.1

-- sorted links that pass the same tests are the same
pub one_list : (xs ys : List Relation) → IsArranged link_key xs → IsArranged link_key ys → AreSameLinks xs ys
    → xs ≡ ys
one_list xs ys a b same = same_list link_key xs ys a b (λ l i. there xs ys same l i)
    (λ l i. there ys xs (λ t. sym (same t)) l i)

-- ---- what comes twice goes once

twice : (a b : Bool) → (a || b) ≡ (a || (a || b))
twice true b = refl
twice false b = refl

pub any-dedup_from : {X : Type 0} (E : X → X → Bool) (is : (x y : X) → E x y ≡ true → x ≡ y)
    (t : X → Bool) (x : X)
    (xs : List X) → list_any t (dedup_from E x xs) ≡ (t x || list_any t xs)
any-dedup_from E is t x [] = refl
any-dedup_from E is t x (y ∷ ys) = elim (E y x) as (λ v. E y x ≡ v
    → list_any t (cond v (dedup_from E x ys) (x ∷ dedup_from E y ys)) ≡ (t x || (t y || list_any t ys))) [
      | true ↦ λ e. any-dedup_from E is t x ys ∙ twice (t x) (list_any t ys)
          ∙ ap (λ z. t x || (t z || list_any t ys)) (sym (is y x e))
      | false ↦ λ _. ap (λ b. t x || b) (any-dedup_from E is t y ys)
    ] refl

pub any-dedup : {X : Type 0} (E : X → X → Bool) (is : (x y : X) → E x y ≡ true → x ≡ y) (t : X → Bool)
    (xs : List X)
    → list_any t (dedup E xs) ≡ list_any t xs
any-dedup E is t [] = refl
any-dedup E is t (x ∷ xs) = any-dedup_from E is t x xs
