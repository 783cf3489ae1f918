-- Lists whose elements are apart by a test, and are sets by a key.
use Rattle.std.proofs.Common.{◌≡◌, ℕ, ℤ, List, [], ◌∷◌, ◌++◌, map, Bool, true, false, refl, sym}
use Rattle.std.proofs.Common.{ap, subst, ◌∙◌, inl}
use Rattle.std.proofs.Common.{inr, arith}
use Rattle.std.specs.Prelude.{bytes_eq}
use Rattle.std.specs.declared.cmp.Ordering.TheVariants.{Less, Equal}
use Rattle.std.specs.List.{AllByRecursion, IsDistinct}
use Rattle.std.specs.Ordering.{int_eq}
use Rattle.std.proofs.lemmas.Bool.{true≢false, false_from_ne_true}
use Rattle.std.proofs.lemmas.Cmp.{tied_itself}
use Rattle.std.proofs.lemmas.Map.Keys.{IsDistinct-IsPermutation}
use Rattle.sqlite_value.proofs.OrderLemmas.{value_cmp_total}
use Rattle.sqlite_value.specs.Order.{value_cmp}
use Rattle.sqlite.specs.Order.{Row}
use Rattle.sqlite.specs.Tree.{rowid, IsTable}
use Rattle.sqlite.specs.Effect.{Database}
use Rattle.sqlite.specs.declared.types.Value.{Value}
use Rattle.sqlite.specs.declared.types.Value.TheVariants.{Int}
use Rattle.sheet_types.specs.Ordered.{arranged, put, is_before, IsArranged}
use Rattle.sheet_types.proofs.Arranging.{IsInOrder}
use Rattle.sheet_types.proofs.Basics.{bytes_eq_swap, before_other_way, before_not_after}
use Rattle.sheet_types.proofs.Every.{All-both, All-map, All-of_map, All-append}
use Rattle.sheet_types.proofs.Same.{In, All-In}
use Rattle.package_tables.specs.Shape.{IsStored, stored_rows}
use Rattle.package_tables.specs.Package.{tables_of, AreFormed}
use Rattle.package_tables.specs.Listed.{Listed}
use Rattle.package_tables.proofs.Lists.{IsListed}
use Rattle.package_tables.proofs.Reading.{arranged_permutation}

-- elements that are apart by a test have keys of their own
pub distinct_keys : {X : Type 0} (e : X → X → Bool) (key : X → List ℕ) (P : X → Type 0)
    → ((x y : X) → P x → P y → e x y ≡ false → bytes_eq (key x) (key y) ≡ false) → (xs : List X)
    → AllByRecursion P xs
    → IsDistinct e xs → IsDistinct bytes_eq (map key xs)
unfolding IsDistinct
distinct_keys e key P so [] h d = tt
distinct_keys e key P so (x ∷ xs) h d = (
  All-map (λ k. bytes_eq (key x) k ≡ false) key xs
      (All-both _ _ _ (λ y p g. so x y h.0 p g) xs h.1 d.0),
  distinct_keys e key P so xs h.1 d.1,
)

-- and in the order of the key they are a set
pub set_in_order : {X : Type 0} (key : X → List ℕ) (xs : List X) → IsInOrder key xs
    → IsDistinct bytes_eq (map key xs)
    → IsArranged key xs
unfolding IsDistinct
set_in_order key [] o d = tt
set_in_order key (x ∷ xs) o d = (
  All-both _ _ _ (λ y b a. before_other_way (key y) (key x) b (bytes_eq_swap (key y) (key x) ∙ a)) xs o.0
      (All-of_map (λ k. bytes_eq (key x) k ≡ false) key xs d.0),
  set_in_order key xs o.1 d.1,
)

-- a set is arranged already
pub arranged_again : {X : Type 0} (key : X → List ℕ) (xs : List X) → IsArranged key xs → arranged key xs ≡ xs
arranged_again key [] h = refl
arranged_again key (x ∷ xs) h = ap (put key x) (arranged_again key xs h.1) ∙ first xs h.0
  where
    first : (ys : List _) → AllByRecursion (λ y. is_before (key x) (key y) ≡ true) ys → put key x ys ≡ x ∷ ys
    first [] g = refl
    first (y ∷ ys) g = rw (before_not_after (key x) (key y) g.0) refl

-- elements that a test does not tell apart are one
pub one_by : {X : Type 0} (e : X → X → Bool) → ((x y : X) → e x y ≡ e y x) → (xs : List X)
    → IsDistinct e xs
    → (a b : X) → In a xs → In b xs → e a b ≡ true → a ≡ b
unfolding IsDistinct
one_by e flips [] d a b i j h = absurd i
one_by {X} e flips (x ∷ xs) d a b i j h = elim i [
  | inl g ↦ elim j [ inl k ↦ sym g ∙ k | inr k ↦ absurd (apart b k (ap (λ v. e v b) g ∙ h)) ]
  | inr k ↦ elim j [
    | inl g ↦ absurd (apart a k (ap (λ v. e v a) g ∙ flips b a ∙ h))
    | inr l
        ↦ one_by e flips xs d.1 a b k l h
  ]
]
  where
    apart : (y : X) → In y xs → e x y ≡ true → ⊥
    apart y k same = true≢false (sym same ∙ All-In (λ z. e x z ≡ false) y xs d.0 k)

-- two lists of which no element of the one has a key of the other
pub distinct_both : {X : Type 0} (key : X → List ℕ) (xs ys : List X) → IsDistinct bytes_eq (map key xs)
    → IsDistinct bytes_eq (map key ys) → AllByRecursion (λ x. AllByRecursion
    (λ y. bytes_eq (key x) (key y) ≡ false)
    ys) xs → IsDistinct bytes_eq (map key (xs ++ ys))
unfolding IsDistinct
distinct_both key [] ys d e h = e
distinct_both key (x ∷ xs) ys d e h = (
  All-map (λ k. bytes_eq (key x) k ≡ false) key (xs ++ ys)
      (All-append _ xs ys (All-of_map (λ k. bytes_eq (key x) k ≡ false) key xs d.0) h.0),
  distinct_both key xs ys
      d.1 e h.1,
)

-- what a map tells apart
pub distinct_of_map : {X Y : Type 0} (e : Y → Y → Bool) (f : X → Y) (xs : List X) → IsDistinct e (map f xs)
    → IsDistinct (λ x y. e (f x) (f y)) xs
unfolding IsDistinct
distinct_of_map e f [] d = tt
distinct_of_map e f (x ∷ xs) d = (All-of_map (λ k. e (f x) k ≡ false) f xs d.0, distinct_of_map e f xs d.1)

-- a list that was made of another by one choice for each element
pub collected : {A B : Type 0} (f : B → A) (P : A → Type 0) (Q : B → Type 0)
    → ((a : A) → P a → (b : B) × (f b ≡ a) × Q b) → (xs : List A) → AllByRecursion P xs → (ys : List B)
    × (map f ys ≡ xs) × AllByRecursion Q ys
collected f P Q one [] h = ([], refl, tt)
collected f P Q one (x ∷ xs) h =
    let b = one x h.0 in
    let rest = collected f P Q one xs h.1 in
    (b.0 ∷ rest.0, λ n. b.1 n ∷ rest.1 n, (b.2, rest.2))

pub int_same : (a b : ℤ) → int_eq a b ≡ true → a ≡ b
int_same a b h = grind (arith)

pub int_flips : (a b : ℤ) → int_eq a b ≡ int_eq b a
int_flips a b = grind (arith)

-- ---- the numbers of the rows of a formed table

module _ {R : Type 0} {list : Listed R} (known : IsListed list) (id : R → ℤ)
    (keyed : (v : Value) (x : R) → rowid (list.shape.stored v x) ≡ Int (id x)) where
  abbrev same : R → R → Bool
  same a b = int_eq (id a) (id b)

  rowid_is : (r : Row) → IsStored list.shape r → rowid r ≡ Int (id (list.shape.typed r))
  rowid_is r stored = ap rowid (sym stored) ∙ keyed (rowid r) (list.shape.typed r)

  apart : (r q : Row) → IsStored list.shape r → IsStored list.shape q → value_cmp (rowid r) (rowid q) ≡ Less
      → same (list.shape.typed r) (list.shape.typed q) ≡ false
  apart r q mine theirs less = false_from_ne_true _ (λ e.
      let number = int_same (id (list.shape.typed r)) (id (list.shape.typed q)) e in
      let one : rowid q ≡ rowid r = rowid_is q theirs ∙ ap Int (sym number) ∙ sym (rowid_is r mine) in
      let tied : value_cmp (rowid r) (rowid q) ≡ Equal = ap (value_cmp (rowid r)) one
      ∙ tied_itself value_cmp_total (rowid r) in
      cc)

  rows_apart : (rows : List Row) → IsTable rows → AllByRecursion (IsStored list.shape) rows
      → IsDistinct same (map list.shape.typed rows)
  unfolding IsDistinct
  rows_apart [] t s = tt
  rows_apart (r ∷ rows) t s = (
    All-map (λ y. same (list.shape.typed r) y ≡ false) list.shape.typed rows
        (All-both _ _ _ (λ q less stored. apart r q s.0 stored less) rows t.0 s.1),
    rows_apart rows t.1 s.1,
  )

  pub ids_apart : (db : Database) → AreFormed db → IsDistinct same (list.rows (tables_of db))
  ids_apart db formed =
      let f = known.formed db formed in
      let there = stored_rows list.shape db in
      let mapped = map list.shape.typed there in
      subst (IsDistinct same) (sym (known.lists db))
      (IsDistinct-IsPermutation same (λ a b. int_flips (id a) (id b)) mapped (arranged list.shape.key mapped)
      (arranged_permutation list.shape.key mapped) (rows_apart there f.keyed.rises f.stored))
