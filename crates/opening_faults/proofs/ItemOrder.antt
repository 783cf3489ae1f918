-- Keys of items: their order and when two are one.
use Rattle.std.proofs.Common.{◌≡◌, ℕ, suc, List, [], ◌∷◌, ◌++◌, length, refl, sym, ap, ◌∙◌}
use Rattle.std.proofs.Common.{arith, true, false, Bool}
use Rattle.std.specs.Prelude.{◌&&◌, nat_eq, bytes_eq}
use Rattle.std.proofs.lemmas.Bool.Decides.{nat_tests}
use Rattle.std.specs.declared.cmp.Ordering.{Ordering}
use Rattle.std.specs.declared.cmp.Ordering.TheVariants.{Equal}
use Rattle.std.specs.Ordering.{ordering_then, nat_cmp}
use Rattle.std.specs.Cmp.{nat_cmp_is}
use Rattle.std.specs.Cmp.Lexicographic.{slice_cmp}
use Rattle.sheet_types.proofs.KeyOrder.{slice_cmp_append}

long_same : (m n : ℕ) (o : Ordering) → m ≡ n → ordering_then (nat_cmp m n) o ≡ o
long_same m n o h = ap (λ x. ordering_then x o) (sym (nat_cmp_is m n Equal h))

-- behind parts of one length the rest decides
pub key_order : (s t : ℕ) (a b f g : List ℕ) → length a ≡ length b
    → slice_cmp nat_cmp (s ∷ length a ∷ (a ++ f)) (t ∷ length b ∷ (b ++ g))
    ≡ ordering_then (nat_cmp s t) (ordering_then (slice_cmp nat_cmp a b) (slice_cmp nat_cmp f g))
key_order s t a b f g h = ap (ordering_then (nat_cmp s t)) (long_same (length a) (length b)
    (slice_cmp nat_cmp (a ++ f) (b ++ g)) h ∙ slice_cmp_append a b f g h)

and_assoc : (a b c : Bool) → (a && (b && c)) ≡ ((a && b) && c)
and_assoc true b c = refl
and_assoc false b c = refl

and_none : (a b : Bool) → (a && (b && false)) ≡ false
and_none true true = refl
and_none true false = refl
and_none false b = refl

suc_same : (m n : ℕ) → nat_eq (suc m) (suc n) ≡ nat_eq m n
suc_same m n = grind (arith, nat_tests)

swap_first : (a b c : Bool) → (a && (b && c)) ≡ (b && (a && c))
swap_first true b c = refl
swap_first false true c = refl
swap_first false false c = refl

-- parts behind their length agree where each does
pub parts_same : (a b f g : List ℕ) → (nat_eq (length a) (length b) && bytes_eq (a ++ f) (b ++ g))
    ≡ (bytes_eq a b && bytes_eq f g)
parts_same [] [] f g = refl
parts_same [] (y ∷ ys) f g = ap (λ v. v && bytes_eq f (y ∷ (ys ++ g))) (none (length ys))
  where
    none : (n : ℕ) → nat_eq 0 (suc n) ≡ false
    none n = grind (arith, nat_tests)
parts_same (x ∷ xs) [] f g = ap (λ v. v && bytes_eq (x ∷ (xs ++ f)) g) (none (length xs))
  where
    none : (n : ℕ) → nat_eq (suc n) 0 ≡ false
    none n = grind (arith, nat_tests)
parts_same (x ∷ xs) (y ∷ ys) f g =
    ap (λ v. v && (nat_eq x y && bytes_eq (xs ++ f) (ys ++ g))) (suc_same (length xs) (length ys))
    ∙ swap_first (nat_eq (length xs) (length ys)) (nat_eq x y) (bytes_eq (xs ++ f) (ys ++ g))
    ∙ ap (λ v. nat_eq x y && v) (parts_same xs ys f g) ∙ and_assoc (nat_eq x y) (bytes_eq xs ys) (bytes_eq f g)

-- two keys are one where size, identity and digest are
pub keys_same : (s t : ℕ) (a b f g : List ℕ) → bytes_eq (s ∷ length a ∷ (a ++ f))
    (t ∷ length b ∷ (b ++ g))
    ≡ ((bytes_eq a b && nat_eq s t) && bytes_eq f g)
keys_same s t a b f g = ap (λ v. nat_eq s t && v) (parts_same a b f g)
    ∙ swap_first (nat_eq s t) (bytes_eq a b) (bytes_eq f g) ∙ and_assoc (bytes_eq a b) (nat_eq s t) (bytes_eq f g)
