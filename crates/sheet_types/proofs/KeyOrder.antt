-- The order of keys that are made of parts.
use Rattle.std.proofs.Common.{◌≡◌, ℕ, List, [], ◌∷◌, ◌++◌, length, refl, ap, ◌∙◌}
use Rattle.std.specs.declared.cmp.Ordering.{Ordering}
use Rattle.std.specs.declared.cmp.Ordering.TheVariants.{Less, Equal, Greater}
use Rattle.std.specs.Ordering.{ordering_then, nat_cmp}
use Rattle.std.specs.Cmp.Lexicographic.{slice_cmp}

-- what decides first, and then what decides after it
pub then_assoc : (a b c : Ordering) → ordering_then a (ordering_then b c) ≡ ordering_then (ordering_then a b) c
then_assoc Less b c = refl
then_assoc Equal b c = refl
then_assoc Greater b c = refl

-- behind parts of one length the rest decides
pub slice_cmp_append : (xs ys us vs : List ℕ) → length xs ≡ length ys
    → slice_cmp nat_cmp (xs ++ us) (ys ++ vs) ≡ ordering_then (slice_cmp nat_cmp xs ys) (slice_cmp nat_cmp us vs)
slice_cmp_append [] [] us vs h = refl
slice_cmp_append [] (y ∷ ys) us vs h = cc h
slice_cmp_append (x ∷ xs) [] us vs h = cc h
slice_cmp_append (x ∷ xs) (y ∷ ys) us vs h =
    ap (ordering_then (nat_cmp x y)) (slice_cmp_append xs ys us vs cc)
    ∙ then_assoc (nat_cmp x y) (slice_cmp nat_cmp xs ys) (slice_cmp nat_cmp us vs)
