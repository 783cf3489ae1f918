-- A list in any order, and a list in the order of a key: where the first has as many elements and each of the second,
-- the second is an order of it.
use Rattle.std.proofs.Common.{◌≡◌, ◌≤◌, ℕ, List, [], ◌∷◌, map, length, Bool, true, refl, sym}
use Rattle.std.proofs.Common.{subst, inl, inr, arith}
use Rattle.std.proofs.Common.{IsTrue}
use Rattle.std.specs.Prelude.{◌↔◌, IsPermutation, count_by, cond, bytes_eq}
use Rattle.std.specs.List.{AllByRecursion, list_any}
use Rattle.std.proofs.lemmas.List.Sorted.{IsPermutation-refl, IsPermutation-sym, IsPermutation-trans}
use Rattle.std.proofs.lemmas.List.Sorted.{IsPermutation-cons, IsPermutation-middle, length_permutation}
use Rattle.std.proofs.lemmas.List.Sorted.{sum_by-IsPermutation}
use Rattle.sqlite_trees.proofs.ListLemmas.{all-permutation}
use Rattle.sheet_types.specs.Ordered.{IsArranged, arranged, is_before}
use Rattle.sheet_types.proofs.Basics.{before_one_way}
use Rattle.sheet_types.proofs.Every.{All-both}
use Rattle.sheet_types.proofs.Order.{counts_arranged, arranged_counts}
use Rattle.sheet_types.proofs.Same.{In, In-all, All-In, In-map, In-of_map, any_in, any_at, same_list}
use Rattle.package_tables.proofs.Reading.{arranged_permutation}

-- elements of a list are those of its orders
pub moved : {X : Type 0} (x : X) (xs ys : List X) → IsPermutation xs ys → In x xs → In x ys
moved x xs ys same i = All-In (λ z. In z ys) x xs (all-permutation (λ z. In z ys) ys xs (IsPermutation-sym xs ys same)
    (In-all ys)) i

-- an element comes to the front
fronted : {X : Type 0} (x : X) (xs : List X) → In x xs → (ys : List X) × IsPermutation xs (x ∷ ys)
fronted x [] i = absurd i
fronted x (y ∷ ys) i = elim i [
  | inl e ↦ (ys, subst (λ z. IsPermutation (y ∷ ys) (z ∷ ys)) e (IsPermutation-refl (y ∷ ys)))
  | inr j ↦ let rest = fronted x ys j in (
    y ∷ rest.0,
    IsPermutation-trans (y ∷ ys) (y ∷ x ∷ rest.0) (x ∷ y ∷ rest.0)
        (IsPermutation-cons y ys (x ∷ rest.0) rest.1) (IsPermutation-middle (y ∷ []) x rest.0),
  )
]

module _ {X : Type 0} (key : X → List ℕ) where
  other : (x y : X) (ys : List X) → is_before (key x) (key y) ≡ true → In y (x ∷ ys) → In y ys
  other x y ys before i = elim i [
    | inl e ↦ let one = subst (λ z. is_before (key x) (key z) ≡ true) (sym e) before in absurd
        (before_one_way (key x) (key x) one one)
    | inr j ↦ j
  ]

  -- a list that has as many elements, and each of these
  pub filled : (xs es : List X) → IsArranged key es → length xs ≡ length es → AllByRecursion (λ e. In e xs) es
      → IsPermutation xs es
  filled [] [] order long each = IsPermutation-refl []
  filled (x ∷ xs) [] order long each = absurd (omega (arith, long))
  filled xs (e ∷ es) order long each =
      let front = fronted e xs each.0 in
      let ys = front.0 in
      let less : length ys ≡ length es = omega (arith, long, length_permutation xs (e ∷ ys) front.1) in
      let rest = filled ys es order.1 less (All-both (λ y. is_before (key e) (key y) ≡ true) (λ y. In y xs)
      (λ y. In y ys) (λ y before i. other e y ys before (moved y xs (e ∷ ys) front.1 i)) es order.0 each.1) in
      IsPermutation-trans xs (e ∷ ys) (e ∷ es) front.1 (IsPermutation-cons e ys es rest)

  count_same : (k : List ℕ) (xs ys : List X) → IsPermutation xs ys → IsArranged key ys
      → count_by (λ x. bytes_eq (key x) k) xs ≤ 1
  count_same k xs ys same order = omega (
    arith,
    counts_arranged key k ys order,
    sum_by-IsPermutation
        (λ x. cond (bytes_eq (key x) k) 1 0) xs ys same,
  )

  -- an arranged list that has the elements of a list in order is this list
  pub arranged_is : (raw es : List X) → IsPermutation (arranged key raw) es → IsArranged key es
      → arranged key raw ≡ es
  arranged_is raw es same order =
      let whole = IsPermutation-trans raw (arranged key raw) es (arranged_permutation key raw) same in
      same_list key (arranged key raw) es (arranged_counts key raw (λ k. count_same k raw es whole order)) order
      (λ x i. moved x (arranged key raw) es same i)
      (λ x i. moved x es (arranged key raw) (IsPermutation-sym (arranged key raw) es same) i)

-- ---- tests of elements by what they become

module _ {A B : Type 0} (f : A → B) (same : A → B → Bool) (P : B → Type 0)
    (decides : (a : A) (b : B) → P b → IsTrue (same a b) ↔ (f a ≡ b)) where
  pub has_one : (xs : List A) (e : B) → P e → IsTrue (list_any (λ a. same a e) xs) ↔ In e (map f xs)
  has_one xs e p = (
    λ yes. let found = any_at (λ a. same a e) xs yes in subst (λ b. In b (map f xs))
        ((decides found.0 e p).0 found.2)
        (In-map f found.0 xs found.1),
    λ i. let found = In-of_map f e xs i in any_in (λ a. same a e) found.0 xs found.1
        ((decides found.0 e p).1 found.2),
  )

-- each element of a list is one of its orders
pub each_in : {X : Type 0} (xs es : List X) → IsPermutation xs es → AllByRecursion (λ e. In e xs) es
each_in xs es same = all-permutation (λ z. In z xs) xs es same (In-all xs)

-- an element by a test of equality
pub has_this : {X : Type 0} (same : X → X → Bool) → ((a b : X) → IsTrue (same a b) ↔ (a ≡ b))
    → (xs : List X) (e : X)
    → IsTrue (list_any (λ a. same a e) xs) ↔ In e xs
has_this same decides xs e = (
  λ yes. let found = any_at (λ a. same a e) xs yes in subst (λ b. In b xs) ((decides found.0 e).0 found.2) found.1,
  λ i. any_in (λ a. same a e) e xs i ((decides e e).1 refl),
)

-- a test of each element and of how many there are
pub just : {X : Type 0} (key : X → List ℕ) (xs es : List X) (r : Bool) → IsArranged key es
    → (IsTrue r ↔ AllByRecursion (λ e. In e xs) es × (length xs ≡ length es))
    → IsTrue r ↔ IsPermutation xs es
just key xs es r order so = (
  λ yes. let h = so.0 yes in filled key xs es order h.1 h.0,
  λ same. so.1
      (each_in xs es same, sym (length_permutation xs es same)),
)
