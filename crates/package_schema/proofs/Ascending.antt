-- Two lists that rise by a number are one where each is an order of the other.
use Rattle.std.specs.Prelude.{◌≡◌, ℤ, ◌<ℤ◌, Bool, true, false, int_lt, List, [], ◌∷◌, map, refl}
use Rattle.std.specs.Prelude.{IsPermutation}
use Rattle.std.specs.Prelude.{IsSorted}
use Rattle.std.proofs.Common.{sym, ap, ◌∙◌, arith, inl, inr, Less, Equal, Greater, cond}
use Rattle.std.specs.List.{AllByRecursion, IsDistinct}
use Rattle.std.specs.Ordering.{on, is_gt, is_eq, int_cmp, int_eq}
use Rattle.std.proofs.lemmas.Int.{ints}
use Rattle.std.proofs.lemmas.Bool.{true≢false}
use Rattle.std.proofs.lemmas.Cmp.{on_total, int_cmp_total, int_eq_equiv}
use Rattle.std.proofs.lemmas.List.Sorted.{IsPermutation-sym, IsPermutation-map}
use Rattle.std.proofs.lemmas.Map.Keys.{IsDistinct-IsPermutation}
use Rattle.sqlite_trees.specs.Tree.{IsAscending}
use Rattle.sqlite_trees.proofs.ListLemmas.{all-permutation, all-map}
use Rattle.sqlite_exec.proofs.PartitionLemmas.{ascending_from_sorted}
use Rattle.sheet_types.proofs.Every.{All-both, All-of_map, All-weaker}
use Rattle.sheet_types.proofs.Same.{In, In-all, All-In}

not_less : (v : Bool) → cond v Greater Equal ≡ Less → ⊥
not_less true h = let e = h in cc
not_less false h = let e = h in cc

pub less_is : (a b : ℤ) → int_cmp a b ≡ Less → a <ℤ b
less_is a b h = elim (int_lt a b) as (λ v. int_lt a b ≡ v → cond v Less (cond (int_lt b a) Greater Equal) ≡ Less
    → a <ℤ b) [
      | true ↦ λ e k. omega (arith, ints, e)
      | false ↦ λ e k. absurd (not_less (int_lt b a) k)
    ] refl h

apart : (a b : ℤ) → a <ℤ b → int_eq a b ≡ false
apart a b h =
    let so : true ≡ int_lt a b = omega (arith, ints, h) in
    ap (λ v. is_eq (cond v Less (cond (int_lt b a) Greater Equal))) (sym so)

strictly : (a b : ℤ) → is_gt (int_cmp a b) ≡ false → int_eq a b ≡ false → a <ℤ b
strictly a b h g = elim (int_lt a b) as (λ v. int_lt a b ≡ v
    → is_gt (cond v Less (cond (int_lt b a) Greater Equal)) ≡ false
    → is_eq (cond v Less (cond (int_lt b a) Greater Equal)) ≡ false → a <ℤ b) [
      | true ↦ λ e k l. omega (arith, ints, e)
      | false ↦ λ e k l. absurd (neither (int_lt b a) k l)
    ] refl h g
  where
    neither : (v : Bool) → is_gt (cond v Greater Equal) ≡ false → is_eq (cond v Greater Equal) ≡ false → ⊥
    neither true k l = true≢false k
    neither false k l = true≢false l

module _ {X : Type 0} (number : X → ℤ) where
  abbrev pub Up : X → X → Type 0
  Up a b = number a <ℤ number b

  rest : (x y : X) (xs ys : List X) → x ≡ y → AllByRecursion (Up x) xs
      → AllByRecursion (λ z. In z (y ∷ ys)) xs
      → AllByRecursion (λ z. In z ys) xs
  rest x y xs ys same up all = All-both (Up x) (λ z. In z (y ∷ ys)) (λ z. In z ys)
      (λ z less i. elim i [
        | inl e ↦ absurd (let n : number x ≡ number z =
            ap number (same ∙ e) in omega (arith, ints, n, less))
        | inr j ↦ j
      ]) xs up all

  -- the same elements
  pub one_list : (xs ys : List X) → IsAscending Up xs → IsAscending Up ys → AllByRecursion (λ x. In x ys) xs
      → AllByRecursion (λ y. In y xs) ys → xs ≡ ys
  one_list [] [] up down here there = refl
  one_list [] (y ∷ ys) up down here there = absurd there.0
  one_list (x ∷ xs) [] up down here there = absurd here.0
  one_list (x ∷ xs) (y ∷ ys) up down here there =
      let first : x ≡ y = elim there.0 [
        | inl e ↦ e
        | inr later ↦ elim here.0 [
          | inl e ↦ sym e
          | inr after
              ↦ absurd (omega (arith, ints, All-In (Up x) y xs up.0 later, All-In (Up y) x ys down.0 after))
        ]
      ] in
      let more = one_list xs ys up.1 down.1 (rest x y xs ys first up.0 here.1)
      (rest y x ys xs (sym first) down.0 there.1) in
      ap (λ z. z ∷ xs) first ∙ ap (λ zs. y ∷ zs) more

  distinct_up : (xs : List X) → IsAscending Up xs → IsDistinct int_eq (map number xs)
  unfolding IsDistinct
  distinct_up [] up = tt
  distinct_up (x ∷ xs) up = (
    all-map (λ k. int_eq (number x) k ≡ false) number xs
        (All-weaker (Up x) (λ y. int_eq (number x) (number y) ≡ false) (λ y h. apart (number x) (number y) h) xs
        up.0),
    distinct_up xs up.1,
  )

  up_distinct : (xs : List X) → IsAscending (λ a b. is_gt (int_cmp (number a) (number b)) ≡ false) xs
      → IsDistinct int_eq (map number xs) → IsAscending Up xs
  unfolding IsDistinct
  up_distinct [] most apart = tt
  up_distinct (x ∷ xs) most apart = (
    All-both (λ y. is_gt (int_cmp (number x) (number y)) ≡ false) (λ y. int_eq (number x) (number y) ≡ false)
        (Up x)
        (λ y m d. strictly (number x) (number y) m d) xs most.0
        (All-of_map (λ k. int_eq (number x) k ≡ false) number xs apart.0),
    up_distinct xs most.1 apart.1,
  )

  -- a list that rises, and an order of it that was sorted
  pub sorted_same : (xs ys : List X) → IsAscending Up xs → IsPermutation xs ys → IsSorted (on number int_cmp) ys
      → ys ≡ xs
  sorted_same xs ys up same sorted =
      let most = ascending_from_sorted (on number int_cmp) (on_total number int_cmp_total) ys sorted in
      let apart = IsDistinct-IsPermutation int_eq int_eq_equiv.symm (map number xs) (map number ys)
      (IsPermutation-map number xs ys same) (distinct_up xs up) in
      one_list ys xs (up_distinct ys most apart) up (all-permutation (λ z. In z xs) xs ys same (In-all xs))
      (all-permutation (λ z. In z ys) ys xs (IsPermutation-sym xs ys same) (In-all ys))
