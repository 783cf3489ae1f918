-- Numbers in the order in which a table has them.
use Rattle.std.proofs.Common.{◌≡◌, inl, inr, ℕ, suc, ◌+◌, ◌<◌, ◌≤◌, ℤ, ◌≤ℤ◌, List, []}
use Rattle.std.proofs.Common.{◌∷◌, map, length, get_or, Bool, true, false, cond, Less, Equal, Greater, refl}
use Rattle.std.proofs.Common.{sym, ap, subst, ◌∙◌, true≢false, arith}
use Rattle.std.specs.Prelude.{◌<ℤ◌, unsigned_abs, nat_lt, if◌then◌else◌, count_by, IsPermutation}
use Rattle.std.specs.List.{AllByRecursion}
use Rattle.std.specs.Ordering.{is_lt, int_eq, int_cmp, nat_cmp, ordering_then}
use Rattle.std.specs.Cmp.{signed_Decides}
use Rattle.std.proofs.lemmas.Bool.{ltb-true, ltb-false}
use Rattle.std.proofs.lemmas.Cmp.{int_ranked, ranked}
use Rattle.std.proofs.lemmas.Int.{ints}
use Rattle.std.proofs.lemmas.List.Sorted.{sum_by-IsPermutation}
use Rattle.sqlite_trees.specs.Tree.{IsAscending}
use Rattle.sheet_types.specs.Ordered.{is_before, put, arranged}
use Rattle.sheet_types.proofs.Every.{All-weaker}
use Rattle.sheet_types.proofs.Order.{before_numbers}
use Rattle.sheet_types.proofs.Sums.{count-cons}
use Rattle.package_tables.specs.Shapes.{number_key}
use Rattle.package_tables.specs.Shown.{InSize}

on_size : (a b c : ℤ) → InSize a b → InSize b c → InSize a c
on_size a b c h g = elim h [
  | inl up ↦ elim g [
    | inl more ↦ inl (omega (arith, up, more))
    | inr same ↦ let e =
        same.0 in inl (omega (arith, up, e))
  ]
  | inr same ↦ elim g [
    | inl more ↦ let e = same.0 in inl (omega (arith, e, more))
    | inr later ↦ let p : a ≤ℤ b = same.1 in let q : b ≤ℤ c =
        later.1 in inr (same.0 ∙ later.0, omega (arith, ints, p, q))
  ]
]

same_size : (a b : ℤ) → InSize a b → InSize b a → a ≡ b
same_size a b (inl up) (inl down) = absurd (omega (arith, up, down))
same_size a b (inl up) (inr same) = let e = same.0 in absurd (omega (arith, up, e))
same_size a b (inr same) (inl down) = let e = same.0 in absurd (omega (arith, down, e))
same_size a b (inr same) (inr back) = let p : a ≤ℤ b = same.1 in let q : b ≤ℤ a =
    back.1 in omega (arith, ints, p, q)

own_size : (a : ℤ) → InSize a a
own_size a = inr (refl, omega (arith, ints))

-- ---- two lists in this order that have each number equally often are one

equal_itself : (a : ℤ) → int_eq a a ≡ true
equal_itself a = (signed_Decides a a).1 refl

least : (x z : ℤ) (l : List ℤ) → AllByRecursion (InSize x) l → 1 ≤ count_by (int_eq z) l → InSize x z
least x z [] h n = absurd (omega (arith, n))
least x z (w ∷ l) h n =
    elim (int_eq z w) as (λ v. int_eq z w ≡ v → InSize x z) [
      | true ↦ λ e. subst (InSize x) (sym ((signed_Decides z w).0 e)) h.0
      | false ↦ λ e. least x z l h.1 (omega (arith, n, count-cons (int_eq z) w l false e))
    ] refl

same_counts : (xs ys : List ℤ) → IsAscending InSize xs → IsAscending InSize ys
    → ((z : ℤ) → count_by (int_eq z) xs ≡ count_by (int_eq z) ys) → xs ≡ ys
same_counts [] [] a b n = refl
same_counts [] (y ∷ ys) a b n = absurd (omega (arith, n y, count-cons (int_eq y) y ys true (equal_itself y)))
same_counts (x ∷ xs) [] a b n = absurd (omega (arith, n x, count-cons (int_eq x) x xs true (equal_itself x)))
same_counts (x ∷ xs) (y ∷ ys) a b n =
    let up : InSize x y = least x y (x ∷ xs) (own_size x, a.0)
    (omega (arith, n y, count-cons (int_eq y) y ys true (equal_itself y))) in
    let down : InSize y x = least y x (y ∷ ys) (own_size y, b.0)
    (omega (arith, n x, count-cons (int_eq x) x xs true (equal_itself x))) in
    let e : x ≡ y = same_size x y up down in
    let rest : xs ≡ ys = same_counts xs ys a.1 b.1 (λ z. omega (
      arith,
      n z,
      count-cons (int_eq z) x xs (int_eq z y) (ap (int_eq z) e),
      count-cons (int_eq z) y ys
          (int_eq z y) refl,
    )) in
    λ k. e k ∷ rest k

pub same_sizes : (xs ys : List ℤ) → IsAscending InSize xs → IsAscending InSize ys → IsPermutation xs ys
    → xs ≡ ys
same_sizes xs ys a b moved = same_counts xs ys a b (λ z. sym
    (sum_by-IsPermutation (λ y. cond (int_eq z y) 1 0) xs ys moved))

-- ---- the order of a table

-- numbers that rise, and are then arranged, come into it
module _ (x : ℤ) where
  all_put : (P : ℤ → Type 0) (ys : List ℤ) → P x → AllByRecursion P ys
      → AllByRecursion P (put number_key x ys)
  all_put P [] h all = (h, tt)
  all_put P (y ∷ ys) h all = elim (is_before (number_key y) (number_key x)) as
      (λ b. AllByRecursion P (if b then y ∷ put number_key x ys else x ∷ y ∷ ys))
      [ true ↦ (all.0, all_put P ys h all.1) | false ↦ (h, all) ]

  before_it : (y : ℤ) → unsigned_abs x ≤ unsigned_abs y → x <ℤ y → InSize x y
  before_it y h up = elim (nat_lt (unsigned_abs x) (unsigned_abs y)) as
      (λ b. nat_lt (unsigned_abs x) (unsigned_abs y) ≡ b → InSize x y) [
        | true ↦ λ e. inl (ltb-true (unsigned_abs x) (unsigned_abs y) e)
        | false ↦ λ e. let back = ltb-false (unsigned_abs x) (unsigned_abs y) e in inr
            (omega (arith, h, back), omega (arith, ints, up))
      ] refl

  put_rises : (ys : List ℤ) → AllByRecursion (λ y. x <ℤ y) ys → IsAscending InSize ys
      → IsAscending InSize (put number_key x ys)
  put_rises [] above up = (tt, tt)
  put_rises (y ∷ ys) above up = one (is_before (number_key y) (number_key x)) refl (put_rises ys above.1 up.1)
    where
      one : (b : Bool) → is_before (number_key y) (number_key x) ≡ b → IsAscending InSize (put number_key x ys)
          → IsAscending InSize (if b then y ∷ put number_key x ys else x ∷ y ∷ ys)
      one true e more =
          let less = ltb-true (unsigned_abs y) (unsigned_abs x)
          (sym (before_numbers (unsigned_abs y) (unsigned_abs x)) ∙ e) in
          (all_put (InSize y) ys (inl less) up.0, more)
      one false e more =
          let first : InSize x y = before_it y (ltb-false (unsigned_abs y) (unsigned_abs x)
          (sym (before_numbers (unsigned_abs y) (unsigned_abs x)) ∙ e)) above.0 in
          ((first, All-weaker (InSize y) (InSize x) (λ z later. on_size x y z first later) ys up.0), up)

all_arranged : (P : ℤ → Type 0) (xs : List ℤ) → AllByRecursion P xs
    → AllByRecursion P (arranged number_key xs)
all_arranged P [] h = tt
all_arranged P (x ∷ xs) h = all_put x P (arranged number_key xs) h.0 (all_arranged P xs h.1)

pub arranged_rises : (xs : List ℤ) → IsAscending (λ a b. a <ℤ b) xs
    → IsAscending InSize (arranged number_key xs)
arranged_rises [] up = tt
arranged_rises (x ∷ xs) up = put_rises x (arranged number_key xs) (all_arranged (λ y. x <ℤ y) xs up.0)
    (arranged_rises xs up.1)

-- values that are arranged by a number have their numbers arranged
module _ {R : Type 0} (number : R → ℤ) where
  map_put : (x : R) (ys : List R) → map number (put (λ y. number_key (number y)) x ys)
      ≡ put number_key (number x) (map number ys)
  map_put x [] = refl
  map_put x (y ∷ ys) = elim (is_before (number_key (number y)) (number_key (number x))) as
      (λ b. map number (if b then y ∷ put (λ y. number_key (number y)) x ys else x ∷ y ∷ ys)
      ≡ (if b then number y ∷ put number_key (number x) (map number ys) else number x ∷ number y
      ∷ map number ys)) [
        | true ↦ ap (λ l. number y ∷ l) (map_put x ys)
        | false ↦ refl
      ]

  pub map_arranged : (xs : List R) → map number (arranged (λ y. number_key (number y)) xs)
      ≡ arranged number_key (map number xs)
  map_arranged [] = refl
  map_arranged (x ∷ xs) = map_put x (arranged (λ y. number_key (number y)) xs)
      ∙ ap (put number_key (number x)) (map_arranged xs)

-- ---- what a sort by size and number leaves

sized_at : (a b : ℤ) → is_lt (ordering_then (nat_cmp (unsigned_abs b) (unsigned_abs a)) (int_cmp b a)) ≡ false
    → InSize a b
sized_at a b h = elim (nat_cmp (unsigned_abs b) (unsigned_abs a)) as
    (λ o. o ≡ nat_cmp (unsigned_abs b) (unsigned_abs a) → is_lt (ordering_then o (int_cmp b a)) ≡ false
    → InSize a b) [
      | Less ↦ λ e g. absurd (true≢false g)
      | Equal ↦ λ e g. inr (
        sym (ranked (unsigned_abs b) (unsigned_abs a) Equal e),
        elim (int_cmp b a) as (λ o. o ≡ int_cmp b a → is_lt o ≡ false → a ≤ℤ b) [
          | Less ↦ λ f w. absurd (true≢false w)
          | Equal ↦ λ f w. let same = int_ranked b a Equal f in omega (arith, ints, same)
          | Greater ↦ λ f w. let up = int_ranked b a Greater f in omega (arith, ints, up)
        ] refl g,
      )
      | Greater ↦ λ e g. inl (ranked (unsigned_abs b) (unsigned_abs a) Greater e)
    ] refl h

pub sized : (xs : List ℤ) → ((k : ℕ) (d : ℤ) → k + 1 < length xs
    → is_lt (ordering_then (nat_cmp (unsigned_abs (get_or xs (k + 1) d)) (unsigned_abs (get_or xs k d)))
    (int_cmp (get_or xs (k + 1) d) (get_or xs k d))) ≡ false) → IsAscending InSize xs
sized [] h = tt
sized (x ∷ []) h = (tt, tt)
sized (x ∷ y ∷ ys) h =
    let rest = sized (y ∷ ys) (λ k d less. let e : suc k + 1 ≡ suc (k + 1) =
    omega arith in subst (λ n. is_lt (ordering_then (nat_cmp (unsigned_abs (get_or (x ∷ y ∷ ys) n d))
    (unsigned_abs (get_or (x ∷ y ∷ ys) (suc k) d))) (int_cmp (get_or (x ∷ y ∷ ys) n d)
    (get_or (x ∷ y ∷ ys) (suc k) d))) ≡ false) e (h (suc k) d (omega (arith, less)))) in
    let first : InSize x y = sized_at x y (h 0 x (omega arith)) in
    ((first, All-weaker (InSize y) (InSize x) (λ z later. on_size x y z first later) ys rest.0), rest)
