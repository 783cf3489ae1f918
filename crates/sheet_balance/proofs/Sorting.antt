-- A stable sort by the number of each is the one that `arranged` says.
use Rattle.std.specs.Prelude.{◌≡◌, ⊤, ◌<◌, ◌≤◌, ℕ, suc, Bool, true, false, cond, not, ◌==◌}
use Rattle.std.specs.Prelude.{◌&&◌, List, [], ◌∷◌, length, filter, refl, nat_lt}
use Rattle.std.proofs.Common.{sym, subst, ap, ◌∙◌, get_or, arith}
use Rattle.std.proofs.lemmas.Bool.Decides.{nat_tests}
use Rattle.std.proofs.lemmas.Bool.{true≢false}
use Rattle.std.specs.List.{AllByRecursion}
use Rattle.std.specs.List.Sorted.{IsNonDecreasingBy, ties}
use Rattle.std.specs.Ordering.{is_lt, nat_cmp}
use Rattle.std.specs.declared.cmp.Ordering.TheVariants.{Less, Equal, Greater}
use Rattle.sheet_types.specs.Ordered.{is_before, put, arranged}
use Rattle.sheet_types.proofs.Order.{before_numbers, All-put}
use Rattle.sheet_types.proofs.Every.{All-weaker}

less : (a b : ℕ) → nat_lt a b ≡ true → a ≤ b
less a b e = grind (arith, nat_tests, e)

not_less : (a b : ℕ) → nat_lt a b ≡ false → b ≤ a
not_less a b e = grind (arith, nat_tests, e)

lt_is : (a b : ℕ) → is_lt (nat_cmp a b) ≡ nat_lt a b
lt_is a b = elim (nat_lt a b) as (λ v. is_lt (cond v Less (cond (a == b) Equal Greater)) ≡ v) [
  | true ↦ refl
  | false ↦ elim (a == b) as (λ u. is_lt (cond u Equal Greater) ≡ false) [ true ↦ refl | false ↦ refl ]
]

abbrev pub near : ℕ → ℕ → Bool
near a b = not (nat_lt a b) && not (nat_lt b a)

near_same : (a b : ℕ) → a ≤ b → b ≤ a → near a b ≡ true
near_same a b h g = grind (arith, nat_tests, h, g)

near_le : (a b : ℕ) → near a b ≡ true → b ≤ a
near_le a b e = grind (arith, nat_tests, e)

near_apart : (a y x : ℕ) → nat_lt y x ≡ true → (near a y && near a x) ≡ false
near_apart a y x e = grind (arith, nat_tests, e)

-- each stands above this number
each_above : {X : Type 0} (n : X → ℕ) (xs : List X) (k : ℕ) →
    ((j : ℕ) (d : X) → j < length xs → k ≤ n (get_or xs j d)) → AllByRecursion (λ y. k ≤ n y) xs
each_above n [] k h = tt
each_above n (x ∷ xs) k h = (h 0 x (omega arith), each_above n xs k (λ j d lt. h (suc j) d (omega (arith, lt))))

module _ {X : Type 0} (n : X → ℕ) where
  -- the numbers do not fall
  abbrev pub Rises : List X → Type 0
  Rises [] = ⊤
  Rises (x ∷ xs) = AllByRecursion (λ y. n x ≤ n y) xs × Rises xs

  -- neither is before the other
  abbrev pub tie : X → X → Bool
  tie = ties (λ x y. is_lt (nat_cmp (n x) (n y)))

  tie_is : (x y : X) → tie x y ≡ near (n x) (n y)
  tie_is x y = ap (λ b. not b && not (is_lt (nat_cmp (n y) (n x)))) (lt_is (n x) (n y))
      ∙ ap (λ b. not (nat_lt (n x) (n y)) && not b) (lt_is (n y) (n x))

  tie_itself : (x : X) → tie x x ≡ true
  tie_itself x = tie_is x x ∙ near_same (n x) (n x) (omega arith) (omega arith)

  tie_same : (x y : X) → n x ≤ n y → n y ≤ n x → tie x y ≡ true
  tie_same x y a b = tie_is x y ∙ near_same (n x) (n y) a b

  tied : (x y : X) → tie x y ≡ true → n y ≤ n x
  tied x y e = near_le (n x) (n y) (sym (tie_is x y) ∙ e)

  -- what is less ties with nothing that the greater ties with
  apart : (a y x : X) → nat_lt (n y) (n x) ≡ true → (tie a y && tie a x) ≡ false
  apart a y x e = ap (λ b. b && tie a x) (tie_is a y) ∙ ap (λ b. near (n a) (n y) && b) (tie_is a x)
      ∙ near_apart (n a) (n y) (n x) e

  -- ---- parts of lists

  abbrev Filled : List X → Type 0
  Filled [] = ⊥
  Filled (x ∷ xs) = ⊤

  abbrev front : X → List X → X
  front d [] = d
  front d (x ∷ xs) = x

  abbrev behind : List X → List X
  behind [] = []
  behind (x ∷ xs) = xs

  -- the first of what ties with it
  own_first : (y : X) (ys : List X) → filter (tie y) (y ∷ ys) ≡ y ∷ filter (tie y) ys
  own_first y ys = ap (λ b. cond b (y ∷ filter (tie y) ys) (filter (tie y) ys)) (tie_itself y)

  -- of a list of which some tie with x, the first is no greater
  least_is : (x y : X) (ys : List X) → AllByRecursion (λ z. n y ≤ n z) ys → Filled (filter (tie x) ys)
      → n y ≤ n x
  least_is x y [] h f = absurd f
  least_is x y (z ∷ zs) h f = elim (tie x z) as (λ b. tie x z ≡ b
      → Filled (cond b (z ∷ filter (tie x) zs) (filter (tie x) zs)) → n y ≤ n x) [
        | true ↦ λ t _. omega (arith, h.0, tied x z t)
        | false ↦ λ _ k. least_is x y zs h.1 k
      ] refl f

  first_least : (x y : X) (ys : List X) → AllByRecursion (λ z. n y ≤ n z) ys
      → Filled (filter (tie x) (y ∷ ys)) → n y ≤ n x
  first_least x y ys h f = least_is x y (y ∷ ys) (omega arith, h) f

  filled_by : (x : X) (xs ys : List X) → filter (tie x) (x ∷ xs) ≡ filter (tie x) ys
      → Filled (filter (tie x) ys)
  filled_by x xs ys e = subst Filled (sym (own_first x xs) ∙ e) tt

  -- what ties in the rest
  rest_ties : (a x : X) (xs ys : List X) → filter (tie a) (x ∷ xs) ≡ filter (tie a) (x ∷ ys)
      → filter (tie a) xs ≡ filter (tie a) ys
  rest_ties a x xs ys e = elim (tie a x) as (λ b. cond b (x ∷ filter (tie a) xs) (filter (tie a) xs)
      ≡ cond b (x ∷ filter (tie a) ys) (filter (tie a) ys) → filter (tie a) xs ≡ filter (tie a) ys) [
        | true ↦ λ k. ap behind k
        | false ↦ λ k. k
      ] e

  -- two lists that rise and have the same ties are one
  pub one_order : (xs ys : List X) → Rises xs → Rises ys → ((a : X) → filter (tie a) xs ≡ filter (tie a) ys)
      → xs ≡ ys
  one_order [] [] g h e = refl
  one_order [] (y ∷ ys) g h e = absurd (subst Filled (sym (e y ∙ own_first y ys)) tt)
  one_order (x ∷ xs) [] g h e = absurd (subst Filled (sym (own_first x xs) ∙ e x) tt)
  one_order (x ∷ xs) (y ∷ ys) g h e =
      let above : n y ≤ n x = first_least x y ys h.0 (filled_by x xs (y ∷ ys) (e x)) in
      let below : n x ≤ n y = first_least y x xs g.0 (filled_by y ys (x ∷ xs) (sym (e y))) in
      let first : x ≡ y = ap (front x) (sym (own_first x xs) ∙ e x
      ∙ ap (λ b. cond b (y ∷ filter (tie x) ys) (filter (tie x) ys)) (tie_same x y below above)) in
      let both : (a : X) → filter (tie a) (x ∷ xs) ≡ filter (tie a) (x ∷ ys) =
      λ a. e a ∙ ap (λ z. filter (tie a) (z ∷ ys)) (sym first) in
      ap (λ zs. x ∷ zs) (one_order xs ys g.1 h.1 (λ a. rest_ties a x xs ys (both a))) ∙ ap (λ z. z ∷ ys) first

  -- ---- what `arranged` makes

  abbrev pub key : X → List ℕ
  key x = n x ∷ []

  -- put behind what is less
  put_rises : (x : X) (xs : List X) → Rises xs → Rises (put key x xs)
  put_rises x [] h = (tt, tt)
  put_rises x (y ∷ ys) h = elim (is_before (key y) (key x)) as
      (λ b. is_before (key y) (key x) ≡ b → Rises (cond b (y ∷ put key x ys) (x ∷ y ∷ ys))) [
        | true ↦ λ e. (
          All-put key (λ z. n y ≤ n z) x ys (less (n y) (n x) (sym (before_numbers (n y) (n x)) ∙ e))
              h.0,
          put_rises x ys h.1,
        )
        | false ↦ λ e. let le : n x ≤ n y = not_less (n y) (n x) (sym (before_numbers (n y) (n x)) ∙ e) in
            ((le, All-weaker (λ z. n y ≤ n z) (λ z. n x ≤ n z) (λ z k. omega (arith, k, le)) ys h.0), h)
      ] refl

  arranged_rises : (xs : List X) → Rises (arranged key xs)
  arranged_rises [] = tt
  arranged_rises (x ∷ xs) = put_rises x (arranged key xs) (arranged_rises xs)

  put_ties : (a x : X) (xs : List X) → filter (tie a) (put key x xs) ≡ filter (tie a) (x ∷ xs)
  put_ties a x [] = refl
  put_ties a x (y ∷ ys) = elim (is_before (key y) (key x)) as
      (λ b. is_before (key y) (key x) ≡ b → filter (tie a) (cond b (y ∷ put key x ys) (x ∷ y ∷ ys))
      ≡ filter (tie a) (x ∷ y ∷ ys)) [
        | true ↦ λ e. ap (λ zs. cond (tie a y) (y ∷ zs) zs) (put_ties a x ys)
            ∙ swapped (tie a y) (tie a x) (apart a y x (sym (before_numbers (n y) (n x)) ∙ e))
        | false ↦ λ e. refl
      ] refl
    where
      swapped : (b c : Bool) → (b && c) ≡ false → cond b (y ∷ cond c (x ∷ filter (tie a) ys)
          (filter (tie a) ys)) (cond c (x ∷ filter (tie a) ys) (filter (tie a) ys))
          ≡ cond c (x ∷ cond b (y ∷ filter (tie a) ys) (filter (tie a) ys))
          (cond b (y ∷ filter (tie a) ys) (filter (tie a) ys))
      swapped true true e = absurd (true≢false e)
      swapped true false e = refl
      swapped false true e = refl
      swapped false false e = refl

  arranged_ties : (a : X) (xs : List X) → filter (tie a) (arranged key xs) ≡ filter (tie a) xs
  arranged_ties a [] = refl
  arranged_ties a (x ∷ xs) = put_ties a x (arranged key xs) ∙ ap (λ zs. cond (tie a x) (x ∷ zs) zs)
      (arranged_ties a xs)

  -- ---- a stable sort

  rises_from : (xs : List X) → IsNonDecreasingBy n xs → Rises xs
  rises_from [] h = tt
  rises_from (x ∷ xs) h = (
    each_above n xs (n x) (λ j d lt. h 0 (suc j) d (omega arith) (omega (arith, lt))),
    rises_from xs (λ i j d le lt. h (suc i) (suc j) d (omega (arith, le)) (omega (arith, lt))),
  )

  pub sorted_is : (xs ys : List X) → IsNonDecreasingBy n ys →
      ((a : X) → filter (tie a) ys ≡ filter (tie a) xs) → ys ≡ arranged key xs
  sorted_is xs ys up stable = one_order ys (arranged key xs) (rises_from ys up) (arranged_rises xs)
      (λ a. stable a ∙ sym (arranged_ties a xs))
