-- Laws of a list without the elements of some keys.
use Rattle.std.specs.Prelude.{◌≡◌, ℕ, ◌+◌, Bool, true, false, cond, not, ◌||◌, List, [], ◌∷◌}
use Rattle.std.specs.Prelude.{map, filter, find, refl, bytes_eq, Some, unwrap_or, sum_by, ◌≤◌, count_by}
use Rattle.std.proofs.Common.{sym, ap, subst, ◌∙◌, arith}
use Rattle.std.specs.List.{list_any, AllByRecursion}
use Rattle.std.proofs.lemmas.List.Sums.{sum_by-cons}
use Rattle.sheet_types.specs.Ordered.{is_before, without, is_among, IsArranged}
use Rattle.sheet_types.proofs.Basics.{None≢Some, or-false, bytes_eq_itself, bytes_eq_swap, before-differs}
use Rattle.sheet_types.proofs.Every.{All-weaker, All-both, All-filter, none_any}
use Rattle.sheet_types.proofs.Sums.{count-cons, none_counted}
use Rattle.sheet_types.proofs.Found.{filter_same}
use Rattle.sheet_types.proofs.Order.{with_key}

module _ {X : Type 0} (key : X → List ℕ) where
  pub is_one : (k : List ℕ) (y : X) → is_among (k ∷ []) (key y) ≡ bytes_eq (key y) k
  is_one k y = or-false (bytes_eq k (key y)) ∙ bytes_eq_swap k (key y)

  pub without_none : (k : List ℕ) (xs : List X) → AllByRecursion (λ y. with_key key k y ≡ false) xs
      → without key (k ∷ []) xs ≡ xs
  without_none k [] h = refl
  without_none k (x ∷ xs) h = rw (is_one k x ∙ h.0) (ap (λ zs. x ∷ zs) (without_none k xs h.1))

  -- a list without the one element of a key
  pub take_one : (k : List ℕ) (f : X → ℕ) (x : X) (xs : List X) → count_by (with_key key k) xs ≤ 1
      → find (with_key key k) xs ≡ Some x → sum_by f (without key (k ∷ []) xs) + f x ≡ sum_by f xs
  take_one k f x [] h e = absurd (None≢Some e)
  take_one k f x (y ∷ ys) h e =
      subst (λ v. sum_by f (cond (not v) (y ∷ without key (k ∷ []) ys) (without key (k ∷ []) ys)) + f x
      ≡ sum_by f (y ∷ ys)) (sym (is_one k y))
      (elim (bytes_eq (key y) k) as (λ v. bytes_eq (key y) k ≡ v
      → cond v (Some y) (find (with_key key k) ys) ≡ Some x
      → sum_by f (cond (not v) (y ∷ without key (k ∷ []) ys) (without key (k ∷ []) ys)) + f x
      ≡ sum_by f (y ∷ ys)) [
        | true ↦ λ here is.
            let same : f y ≡ f x = ap (λ o. f (unwrap_or o y)) is in
            let none : without key (k ∷ []) ys ≡ ys = without_none k ys
            (none_counted (with_key key k) ys (omega
            (arith, h, count-cons (with_key key k) y ys true here))) in
            omega (arith, ap (sum_by f) none, same, sum_by-cons f y ys)
        | false ↦ λ other is. omega (
          arith,
          sum_by-cons f y ys,
          sum_by-cons f y (without key (k ∷ []) ys),
          take_one k f x ys (omega (arith, h, count-cons (with_key key k) y ys false other)) is,
        )
      ] refl e)

-- a list with one of a key taken out has all others
pub All-without : {X : Type 0} (key : X → List ℕ) (k : List ℕ) (P : X → Type 0) (xs : List X)
    → AllByRecursion (λ x. bytes_eq (key x) k ≡ false → P x) xs
    → AllByRecursion P (without key (k ∷ []) xs)
All-without key k P [] h = tt
All-without key k P (x ∷ xs) h =
    elim (is_among (k ∷ []) (key x)) as (λ v. is_among (k ∷ []) (key x) ≡ v
    → AllByRecursion P (cond (not v) (x ∷ without key (k ∷ []) xs) (without key (k ∷ []) xs))) [
      | true ↦ λ _. All-without key k P xs h.1
      | false ↦ λ other. (h.0 (sym (is_one key k x) ∙ other), All-without key k P xs h.1)
    ] refl

-- being among keys, by elements
pub among_keys : {X : Type 0} (key : X → List ℕ) (k : List ℕ) (xs : List X)
    → is_among (map key xs) k ≡ list_any (λ y. bytes_eq (key y) k) xs
among_keys key k [] = refl
among_keys key k (x ∷ xs) = ap (λ b. bytes_eq (key x) k || b) (among_keys key k xs)

-- an element is among what a test takes exactly where it passes
pub among_taken : {X : Type 0} (key : X → List ℕ) (t : X → Bool) (xs : List X) → IsArranged key xs
    → AllByRecursion (λ x. list_any (λ y. bytes_eq (key y) (key x)) (filter t xs) ≡ t x) xs
among_taken key t [] h = tt
among_taken key t (x ∷ xs) h =
    let later : AllByRecursion (λ y. bytes_eq (key y) (key x) ≡ false) xs =
    All-weaker (λ y. is_before (key x) (key y) ≡ true) (λ y. bytes_eq (key y) (key x) ≡ false)
    (λ y b. bytes_eq_swap (key y) (key x) ∙ before-differs (key x) (key y) b) xs h.0 in (
      elim (t x) as (λ v. list_any (λ y. bytes_eq (key y) (key x)) (cond v (x ∷ filter t xs) (filter t xs)) ≡ v) [
        | true ↦ ap (λ b. b || list_any (λ y. bytes_eq (key y) (key x)) (filter t xs)) (bytes_eq_itself (key x))
        | false ↦ none_any (λ y. bytes_eq (key y) (key x)) (filter t xs)
            (All-filter (λ y. bytes_eq (key y) (key x) ≡ false) t xs later)
      ],
      All-both (λ y. is_before (key x) (key y) ≡ true) (λ y. list_any (λ z. bytes_eq (key z) (key y))
          (filter t xs) ≡ t y) (λ y. list_any (λ z. bytes_eq (key z) (key y)) (filter t (x ∷ xs)) ≡ t y)
          (λ y before is. elim (t x) as (λ v. list_any (λ z. bytes_eq (key z) (key y))
          (cond v (x ∷ filter t xs) (filter t xs)) ≡ t y) [
            | true ↦ ap (λ b. b || list_any (λ z. bytes_eq (key z) (key y)) (filter t xs))
                (before-differs (key x) (key y) before) ∙ is
            | false ↦ is
          ]) xs h.0 (among_taken key t xs h.1),
    )

-- the list without the keys of what a test takes is what the test leaves
pub rest_of : {X : Type 0} (key : X → List ℕ) (t : X → Bool) (xs : List X) → IsArranged key xs
    → without key (map key (filter t xs)) xs ≡ filter (λ x. not (t x)) xs
rest_of key t xs h = filter_same (λ x. not (is_among (map key (filter t xs)) (key x))) (λ x. not (t x)) xs
    (All-weaker (λ x. list_any (λ y. bytes_eq (key y) (key x)) (filter t xs) ≡ t x)
    (λ x. not (is_among (map key (filter t xs)) (key x)) ≡ not (t x))
    (λ x is. ap not (among_keys key (key x) (filter t xs) ∙ is)) xs (among_taken key t xs h))
