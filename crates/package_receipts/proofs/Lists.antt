-- Lists in order: cut where a number ends, and two that have the same elements.
use Rattle.std.proofs.Common.{◌≡◌, ℤ, ◌≤◌, ◌≤ℤ◌, List, [], ◌∷◌, ◌++◌, Bool, true}
use Rattle.std.proofs.Common.{false, refl, sym, ap, subst, arith}
use Rattle.std.specs.Prelude.{filter, count_by, cond, IsPermutation}
use Rattle.std.specs.List.{AllByRecursion}
use Rattle.std.specs.Ordering.{int_eq}
use Rattle.std.specs.Cmp.{signed_Decides}
use Rattle.std.proofs.lemmas.Int.{ints}
use Rattle.std.proofs.lemmas.List.Sorted.{sum_by-IsPermutation}
use Rattle.sqlite_trees.specs.Tree.{IsAscending}
use Rattle.sheet_types.proofs.Sums.{count-cons}

pub ascending-right : {A : Type 0} (R : A → A → Type 0) (xs ys : List A) → IsAscending R (xs ++ ys)
    → IsAscending R ys
ascending-right R [] ys up = up
ascending-right R (x ∷ xs) ys up = ascending-right R xs ys up.1

pub filter-append : {A : Type 0} (p : A → Bool) (xs ys : List A)
    → filter p (xs ++ ys) ≡ filter p xs ++ filter p ys
filter-append p [] ys = refl
filter-append p (x ∷ xs) ys =
    elim (p x) as (λ b. cond b (x ∷ filter p (xs ++ ys)) (filter p (xs ++ ys))
    ≡ cond b (x ∷ filter p xs) (filter p xs) ++ filter p ys) [
      | true ↦ ap (λ l. x ∷ l) (filter-append p xs ys)
      | false ↦ filter-append p xs ys
    ]

pub int_eq_at : (a b : ℤ) → int_eq a b ≡ true → a ≡ b
int_eq_at a b = (signed_Decides a b).0

pub int_eq_itself : (a : ℤ) → int_eq a a ≡ true
int_eq_itself a = (signed_Decides a a).1 refl

pub int_eq_apart : (a b : ℤ) → (a ≡ b → ⊥) → int_eq a b ≡ false
int_eq_apart a b differ = elim (int_eq a b) as (λ v. int_eq a b ≡ v → v ≡ false)
    [ true ↦ λ e. absurd (differ (int_eq_at a b e)) | false ↦ λ e. refl ] refl

-- ---- two lists that rise and have each number equally often are one

-- a number that is there is not below the least
least : (x z : ℤ) (l : List ℤ) → AllByRecursion (λ y. x ≤ℤ y) l → 1 ≤ count_by (int_eq z) l
    → x ≤ℤ z
least x z [] h n = absurd (omega (arith, n))
least x z (w ∷ l) h n =
    elim (int_eq z w) as (λ v. int_eq z w ≡ v → x ≤ℤ z) [
      | true ↦ λ e. subst (λ y. x ≤ℤ y) (sym (int_eq_at z w e)) h.0
      | false ↦ λ e. least x z l h.1 (omega (arith, n, count-cons (int_eq z) w l false e))
    ] refl

same_counts : (xs ys : List ℤ) → IsAscending (λ a b. a ≤ℤ b) xs → IsAscending (λ a b. a ≤ℤ b) ys
    → ((z : ℤ) → count_by (int_eq z) xs ≡ count_by (int_eq z) ys) → xs ≡ ys
same_counts [] [] a b n = refl
same_counts [] (y ∷ ys) a b n = absurd (omega (arith, n y, count-cons (int_eq y) y ys true (int_eq_itself y)))
same_counts (x ∷ xs) [] a b n = absurd (omega (arith, n x, count-cons (int_eq x) x xs true (int_eq_itself x)))
same_counts (x ∷ xs) (y ∷ ys) a b n =
    let own : x ≤ℤ x = omega (arith, ints) in
    let own' : y ≤ℤ y = omega (arith, ints) in
    let up : x ≤ℤ y = least x y (x ∷ xs) (own, a.0) (omega (
      arith,
      n y,
      count-cons (int_eq y) y ys true
          (int_eq_itself y),
    )) in
    let down : y ≤ℤ x = least y x (y ∷ ys) (own', b.0) (omega
    (arith, n x, count-cons (int_eq x) x xs true (int_eq_itself x))) in
    let e : x ≡ y = omega (arith, ints, up, down) in
    let rest : xs ≡ ys = same_counts xs ys a.1 b.1 (λ z. omega (
      arith,
      n z,
      count-cons (int_eq z) x xs (int_eq z y) (ap (int_eq z) e),
      count-cons (int_eq z) y ys
          (int_eq z y) refl,
    )) in
    λ k. e k ∷ rest k

pub same_sorted : (xs ys : List ℤ) → IsAscending (λ a b. a ≤ℤ b) xs → IsAscending (λ a b. a ≤ℤ b) ys
    → IsPermutation xs ys → xs ≡ ys
same_sorted xs ys a b moved = same_counts xs ys a b (λ z. sym
    (sum_by-IsPermutation (λ y. cond (int_eq z y) 1 0) xs ys moved))
