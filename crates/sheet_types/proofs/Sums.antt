-- Sums and counts of lists, by a measure of their elements.
use Rattle.std.specs.Prelude.{◌≡◌, ℕ, ◌+◌, Bool, true, false, cond, not, ◌||◌, List, [], ◌∷◌}
use Rattle.std.specs.Prelude.{map, filter, length, refl, flat_map, sum_by, ◌≤◌, count_by}
use Rattle.std.proofs.Common.{ap, ◌∙◌, arith}
use Rattle.std.proofs.lemmas.Bool.{false≢true}
use Rattle.std.specs.List.{list_any, AllByRecursion}
use Rattle.std.proofs.lemmas.List.Sums.{sum_by-append, sum_by-cons}
use Rattle.sheet_types.proofs.Every.{none_pass}

-- equal measures
pub sum_by-same : {X : Type 0} (f g : X → ℕ) → ((x : X) → f x ≡ g x) → (xs : List X)
    → sum_by f xs ≡ sum_by g xs
sum_by-same f g e [] = refl
sum_by-same f g e (x ∷ xs) = omega (arith, sum_by-cons f x xs, sum_by-cons g x xs, e x, sum_by-same f g e xs)

-- a measure that is 0
pub sum_by-zero : {X : Type 0} (f : X → ℕ) → ((x : X) → f x ≡ 0) → (xs : List X) → sum_by f xs ≡ 0
sum_by-zero f z [] = refl
sum_by-zero f z (x ∷ xs) = omega (arith, sum_by-cons f x xs, z x, sum_by-zero f z xs)

-- a measure that is 1 counts
pub length_sum : {X : Type 0} (f : X → ℕ) → ((x : X) → f x ≡ 1) → (xs : List X)
    → sum_by f xs ≡ length xs
length_sum f z [] = refl
length_sum f z (x ∷ xs) = omega (arith, sum_by-cons f x xs, z x, length_sum f z xs)

-- a sum over what a map makes
pub sum_by-map : {X Y : Type 0} (f : Y → ℕ) (g : X → Y) (xs : List X)
    → sum_by f (map g xs) ≡ sum_by (λ x. f (g x)) xs
sum_by-map f g [] = refl
sum_by-map f g (x ∷ xs) = omega (
  arith,
  sum_by-cons f (g x) (map g xs),
  sum_by-cons (λ y. f (g y)) x xs,
  sum_by-map
      f g xs,
)

-- a sum over lists of lists
pub sum_by-flat_map : {X Y : Type 0} (f : Y → ℕ) (g : X → List Y) (xs : List X)
    → sum_by f (flat_map g xs) ≡ sum_by (λ x. sum_by f (g x)) xs
sum_by-flat_map f g [] = refl
sum_by-flat_map f g (x ∷ xs) = omega (
  arith,
  sum_by-append f (g x) (flat_map g xs),
  sum_by-cons
      (λ y. sum_by f (g y)) x xs,
  sum_by-flat_map f g xs,
)

-- what passes a test and what does not
pub sum_by-parts : {X : Type 0} (f : X → ℕ) (t : X → Bool) (xs : List X)
    → sum_by f (filter (λ x. not (t x)) xs) + sum_by f (filter t xs) ≡ sum_by f xs
sum_by-parts f t [] = refl
sum_by-parts f t (x ∷ xs) =
    elim (t x) as (λ v. sum_by f (cond (not v) (x ∷ filter (λ y. not (t y)) xs) (filter (λ y. not (t y)) xs)) +
    sum_by f (cond v (x ∷ filter t xs) (filter t xs)) ≡ sum_by f (x ∷ xs)) [
      | true ↦ omega (arith, sum_by-cons f x xs, sum_by-cons f x (filter t xs), sum_by-parts f t xs)
      | false ↦ omega (arith, sum_by-cons f x xs, sum_by-cons f x (filter (λ y. not (t y)) xs), sum_by-parts f t xs)
    ]

-- a sum over what a filter takes
pub sum_by-filter : {X : Type 0} (f : X → ℕ) (t : X → Bool) (xs : List X)
    → sum_by f (filter t xs) ≡ sum_by (λ x. cond (t x) (f x) 0) xs
sum_by-filter f t [] = refl
sum_by-filter f t (x ∷ xs) =
    elim (t x) as (λ v. t x ≡ v → sum_by f (cond v (x ∷ filter t xs) (filter t xs))
    ≡ sum_by (λ y. cond (t y) (f y) 0) (x ∷ xs)) [
      | true ↦ λ e. omega (
        arith,
        sum_by-cons f x (filter t xs),
        sum_by-cons (λ y. cond (t y) (f y) 0) x xs,
        sum_by-filter f t xs,
        ap (λ b. cond b (f x) 0) e,
      )
      | false ↦ λ e. omega (
        arith,
        sum_by-cons (λ y. cond (t y) (f y) 0) x xs,
        sum_by-filter f t xs,
        ap
            (λ b. cond b (f x) 0) e,
      )
    ] refl

-- a filter takes no more than all
pub filter_less : {X : Type 0} (f : X → ℕ) (t : X → Bool) (xs : List X) → sum_by f (filter t xs) ≤ sum_by f xs
filter_less f t xs = omega (arith, sum_by-parts f t xs)

-- a count, one element at a time
pub count-cons : {X : Type 0} (p : X → Bool) (x : X) (xs : List X) (b : Bool) → p x ≡ b
    → count_by p (x ∷ xs) ≡ cond b 1 0 + count_by p xs
count-cons p x xs b e = sum_by-cons (λ y. cond (p y) 1 0) x xs ∙ ap (λ v. cond v 1 0 + count_by p xs) e

-- no element passes, and none is counted
pub count_none : {X : Type 0} (p : X → Bool) (xs : List X) → AllByRecursion (λ x. p x ≡ false) xs
    → count_by p xs ≡ 0
count_none p [] h = refl
count_none p (x ∷ xs) h = omega (arith, count-cons p x xs false h.0, count_none p xs h.1)

-- and back
pub none_counted : {X : Type 0} (p : X → Bool) (xs : List X) → count_by p xs ≡ 0
    → AllByRecursion (λ x. p x ≡ false) xs
none_counted p [] h = tt
none_counted p (x ∷ xs) h =
    elim (p x) as (λ v. p x ≡ v → (v ≡ false) × AllByRecursion (λ y. p y ≡ false) xs) [
      | true ↦ λ e. absurd (omega (arith, h, count-cons p x xs true e))
      | false ↦ λ e. (refl, none_counted p xs (omega (arith, h, count-cons p x xs false e)))
    ] refl

-- some element passes, and one is counted
pub any_some : {X : Type 0} (p : X → Bool) (xs : List X) → list_any p xs ≡ true → 1 ≤ count_by p xs
any_some p [] h = absurd (false≢true h)
any_some p (x ∷ xs) h =
    elim (p x) as (λ v. p x ≡ v → (v || list_any p xs) ≡ true → 1 ≤ count_by p (x ∷ xs)) [
      | true ↦ λ e _. omega (arith, count-cons p x xs true e)
      | false ↦ λ e more. omega (arith, count-cons p x xs false e, any_some p xs more)
    ] refl h

-- none passes, and none is counted
pub any_none : {X : Type 0} (p : X → Bool) (xs : List X) → list_any p xs ≡ false → count_by p xs ≡ 0
any_none p xs h = count_none p xs (none_pass p xs h)

-- a weaker test counts more
pub count_le : {X : Type 0} (p q : X → Bool) → ((x : X) → p x ≡ true → q x ≡ true) → (xs : List X)
    → count_by p xs ≤ count_by q xs
count_le p q f [] = omega arith
count_le p q f (x ∷ xs) =
    elim (p x) as (λ v. p x ≡ v → count_by p (x ∷ xs) ≤ count_by q (x ∷ xs)) [
      | true ↦ λ e. omega (arith, count-cons p x xs true e, count-cons q x xs true (f x e), count_le p q f xs)
      | false ↦ λ e. omega (
        arith,
        count-cons p x xs false e,
        sum_by-cons (λ y. cond (q y) 1 0) x xs,
        count_le p q
            f xs,
      )
    ] refl

-- two counts of one at most, of which not both are one
pub not_both_count : {X : Type 0} (p : X → Bool) (xs ys : List X) → count_by p xs ≤ 1 → count_by p ys ≤ 1
    → (list_any p xs ≡ true → list_any p ys ≡ true → ⊥) → count_by p xs + count_by p ys ≤ 1
not_both_count p xs ys hx hy never =
    elim (list_any p xs) as (λ v. list_any p xs ≡ v → count_by p xs + count_by p ys ≤ 1) [
      | true ↦ λ ex. elim (list_any p ys) as (λ v. list_any p ys ≡ v → count_by p xs + count_by p ys ≤ 1) [
        | true ↦ λ ey. absurd (never ex ey)
        | false ↦ λ ey. omega (arith, hx, any_none p ys ey)
      ] refl
      | false ↦ λ ex. omega (arith, hy, any_none p xs ex)
    ] refl

-- the same of the elements alone
pub sum_by-same_all : {X : Type 0} (f g : X → ℕ) (xs : List X) → AllByRecursion (λ x. f x ≡ g x) xs
    → sum_by f xs ≡ sum_by g xs
sum_by-same_all f g [] h = refl
sum_by-same_all f g (x ∷ xs) h = omega (
  arith,
  sum_by-cons f x xs,
  sum_by-cons g x xs,
  h.0,
  sum_by-same_all f g xs
      h.1,
)

pub count_le_all : {X : Type 0} (p q : X → Bool) (xs : List X)
    → AllByRecursion (λ x. p x ≡ true → q x ≡ true) xs → count_by p xs ≤ count_by q xs
count_le_all p q [] h = omega arith
count_le_all p q (x ∷ xs) h =
    elim (p x) as (λ v. p x ≡ v → count_by p (x ∷ xs) ≤ count_by q (x ∷ xs)) [
      | true ↦ λ e. omega (arith, count-cons p x xs true e, count-cons q x xs true (h.0 e), count_le_all p q xs h.1)
      | false ↦ λ e. omega (
        arith,
        count-cons p x xs false e,
        sum_by-cons (λ y. cond (q y) 1 0) x xs,
        count_le_all
            p q xs h.1,
      )
    ] refl
