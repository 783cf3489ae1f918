-- Lists whose images are distinct, by counts.
use Rattle.std.specs.Prelude.{◌≡◌, ℕ, true, false, cond, List, [], ◌∷◌, map, refl, bytes_eq, ◌≤◌}
use Rattle.std.specs.Prelude.{count_by}
use Rattle.std.proofs.Common.{sym, ap, ◌∙◌, arith}
use Rattle.std.proofs.lemmas.Slice.Eq.{bytes_eq-Decides}
use Rattle.std.specs.List.{AllByRecursion, IsDistinct}
use Rattle.std.proofs.lemmas.List.Sums.{sum_by-cons}
use Rattle.std.proofs.lemmas.Map.Keys.{IsDistinct-head, IsDistinct-tail, IsDistinct-cons}
use Rattle.sheet_types.proofs.Basics.{bytes_eq_itself, bytes_eq_swap}
use Rattle.sheet_types.proofs.Every.{All-weaker, All-map, All-of_map}
use Rattle.sheet_types.proofs.Sums.{count-cons, count_none, none_counted}

-- each value has one element at most
pub distinct_counts : {X : Type 0} (f : X → List ℕ) (k : List ℕ) (xs : List X)
    → IsDistinct bytes_eq (map f xs) → count_by (λ x. bytes_eq (f x) k) xs ≤ 1
distinct_counts f k [] h = omega arith
distinct_counts f k (x ∷ xs) h =
    elim (bytes_eq (f x) k) as (λ v. bytes_eq (f x) k ≡ v → count_by (λ y. bytes_eq (f y) k) (x ∷ xs) ≤ 1) [
      | true ↦ λ e.
          let others : AllByRecursion (λ y. bytes_eq (f y) k ≡ false) xs =
          All-weaker (λ y. bytes_eq (f x) (f y) ≡ false) (λ y. bytes_eq (f y) k ≡ false)
          (λ y d. ap (bytes_eq (f y)) (sym ((bytes_eq-Decides (f x) k).0 e)) ∙ bytes_eq_swap (f y) (f x) ∙ d)
          xs
          (All-of_map (λ z. bytes_eq (f x) z ≡ false) f xs (IsDistinct-head bytes_eq (f x) (map f xs) h)) in
          omega (arith, count-cons (λ y. bytes_eq (f y) k) x xs true e, count_none (λ y. bytes_eq (f y) k) xs others)
      | false ↦ λ e. omega (
        arith,
        count-cons (λ y. bytes_eq (f y) k) x xs false e,
        distinct_counts f k xs
            (IsDistinct-tail bytes_eq (f x) (map f xs) h),
      )
    ] refl

-- and back
pub counts_distinct : {X : Type 0} (f : X → List ℕ) (xs : List X)
    → ((k : List ℕ) → count_by (λ x. bytes_eq (f x) k) xs ≤ 1) → IsDistinct bytes_eq (map f xs)
unfolding IsDistinct
counts_distinct f [] h = tt
counts_distinct f (x ∷ xs) h =
    let none : AllByRecursion (λ y. bytes_eq (f y) (f x) ≡ false) xs =
    none_counted (λ y. bytes_eq (f y) (f x)) xs (omega
    (arith, h (f x), count-cons (λ y. bytes_eq (f y) (f x)) x xs true (bytes_eq_itself (f x)))) in
    IsDistinct-cons bytes_eq (f x) (map f xs) (All-map (λ z. bytes_eq (f x) z ≡ false) f xs
    (All-weaker (λ y. bytes_eq (f y) (f x) ≡ false) (λ y. bytes_eq (f x) (f y) ≡ false)
    (λ y d. bytes_eq_swap (f x) (f y) ∙ d) xs none))
    (counts_distinct f xs (λ k. omega (arith, h k, sum_by-cons (λ y. cond (bytes_eq (f y) k) 1 0) x xs)))
