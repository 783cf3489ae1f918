-- Rows whose keys are apart.
use Rattle.std.proofs.Common.{◌≡◌, ℕ, ℤ, List, [], ◌∷◌, map, Bool, true, false, refl, sym, subst}
use Rattle.std.proofs.Common.{◌∙◌, Less, Equal}
use Rattle.std.proofs.Common.{Greater}
use Rattle.std.specs.Prelude.{◌&&◌, bytes_eq}
use Rattle.std.specs.declared.cmp.Ordering.{Ordering}
use Rattle.std.specs.List.{IsDistinct}
use Rattle.std.specs.Ordering.{eq_by_cmp, ordering_then, is_eq, int_cmp, int_eq, nat_cmp}
use Rattle.std.specs.Cmp.Lexicographic.{slice_cmp}
use Rattle.std.proofs.lemmas.Map.Text.{is_eq-slice_cmp}
use Rattle.sheet_types.proofs.Every.{All-weaker, All-map}
use Rattle.package_items.proofs.Apart.{distinct_of_map}

-- by a test that answers the same
same_test : {X : Type 0} (e d : X → X → Bool) → ((x y : X) → e x y ≡ d x y) → (xs : List X)
    → IsDistinct e xs
    → IsDistinct d xs
unfolding IsDistinct
same_test e d h [] apart = tt
same_test e d h (x ∷ xs) apart = (
  All-weaker (λ y. e x y ≡ false) (λ y. d x y ≡ false) (λ y k. sym (h x y) ∙ k) xs
      apart.0,
  same_test e d h xs apart.1,
)

pub is_both : (o p : Ordering) → is_eq (ordering_then o p) ≡ (is_eq o && is_eq p)
is_both Less p = refl
is_both Equal p = refl
is_both Greater p = refl

-- two numbers as a key
pub numbers_apart : {X : Type 0} (f g : X → ℤ) (xs : List X)
    → IsDistinct (eq_by_cmp (λ (a b : ℤ × ℤ). ordering_then (int_cmp a.0 b.0) (int_cmp a.1 b.1)))
    (map (λ x. (f x, g x)) xs) → IsDistinct (λ x y. int_eq (f x) (f y) && int_eq (g x) (g y)) xs
numbers_apart {X} f g xs apart =
    let e : ℤ × ℤ → ℤ × ℤ → Bool = eq_by_cmp (λ (a b : ℤ × ℤ). ordering_then (int_cmp a.0 b.0)
    (int_cmp a.1 b.1)) in
    let pair : X → ℤ × ℤ = λ x. (f x, g x) in
    same_test (λ x y. e (pair x) (pair y)) _ (λ x y. is_both (int_cmp (f x) (f y)) (int_cmp (g x) (g y))) xs
    (distinct_of_map e pair xs apart)

map_apart : {X Y : Type 0} (e : Y → Y → Bool) (f : X → Y) (xs : List X) → IsDistinct (λ x y. e (f x) (f y)) xs
    → IsDistinct e (map f xs)
unfolding IsDistinct
map_apart e f [] d = tt
map_apart e f (x ∷ xs) d = (All-map (λ k. e (f x) k ≡ false) f xs d.0, map_apart e f xs d.1)

-- a text as a key, seen by another value
pub texts_apart : {X K : Type 0} (f : X → List ℕ) (v : K → List ℕ) (ks : List K) (xs : List X)
    → map v ks ≡ map f xs
    → IsDistinct (eq_by_cmp (λ a b. slice_cmp nat_cmp (v a) (v b))) ks
    → IsDistinct (λ x y. bytes_eq (f x) (f y)) xs
texts_apart f v ks xs same apart =
    let e : List ℕ → List ℕ → Bool = λ a b. is_eq (slice_cmp nat_cmp a b) in
    same_test (λ x y. e (f x) (f y)) _ (λ x y. is_eq-slice_cmp (f x) (f y)) xs
    (distinct_of_map e f xs (subst (IsDistinct e) same (map_apart e v ks apart)))

pub first_true : (a b : Bool) → (a && b) ≡ true → a ≡ true
first_true true b h = refl
first_true false b h = h

pub second_true : (a b : Bool) → (a && b) ≡ true → b ≡ true
second_true true b h = h
second_true false true h = refl
second_true false false h = h

is_three : (o p q : Ordering) → is_eq (ordering_then (ordering_then o p) q) ≡ (is_eq o && is_eq p && is_eq q)
is_three Less p q = refl
is_three Equal p q = is_both p q
is_three Greater p q = refl

-- three numbers as a key
pub three_apart : {X : Type 0} (f g h : X → ℤ) (xs : List X)
    → IsDistinct (eq_by_cmp (λ (a b : ℤ × ℤ × ℤ). ordering_then
    (ordering_then (int_cmp a.0 b.0) (int_cmp a.1 b.1))
    (int_cmp a.2 b.2))) (map (λ x. (f x, g x, h x)) xs) → IsDistinct
    (λ x y. int_eq (f x) (f y) && int_eq (g x) (g y) && int_eq (h x) (h y)) xs
three_apart {X} f g h xs apart =
    let e : ℤ × ℤ × ℤ → ℤ × ℤ × ℤ → Bool = eq_by_cmp (λ (a b : ℤ × ℤ × ℤ). ordering_then
    (ordering_then (int_cmp a.0 b.0) (int_cmp a.1 b.1)) (int_cmp a.2 b.2)) in
    let key : X → ℤ × ℤ × ℤ = λ x. (f x, g x, h x) in
    same_test (λ x y. e (key x) (key y)) _ (λ x y. is_three (int_cmp (f x) (f y)) (int_cmp (g x) (g y))
    (int_cmp (h x) (h y))) xs (distinct_of_map e key xs apart)
