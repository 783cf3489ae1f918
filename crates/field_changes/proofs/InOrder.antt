-- Lists that were sorted by a key, and whose elements have keys of their own, are sets.
use Rattle.std.proofs.Common.{◌≡◌, ℕ, zero, suc, ◌+◌, ◌<◌, List, [], ◌∷◌, ◌++◌, map, length}
use Rattle.std.proofs.Common.{get_or, true, false, sym}
use Rattle.std.proofs.Common.{ap, subst, ◌∙◌, true≢false, arith}
use Rattle.std.specs.Prelude.{Bool, MatchBool, bytes_eq, IsPermutation}
use Rattle.std.specs.List.{IsDistinct, IsAllAdjacentAnswer, AllAdjacentBelow}
use Rattle.std.specs.Ordering.{is_lt, nat_cmp, ordering_then}
use Rattle.std.specs.Cmp.Lexicographic.{slice_cmp}
use Rattle.std.proofs.lemmas.List.Sorted.{IsPermutation-map}
use Rattle.std.proofs.lemmas.Map.Keys.{IsDistinct-IsPermutation}
use Rattle.sheet_types.specs.Ordered.{is_before, IsArranged}
use Rattle.sheet_types.proofs.Basics.{bytes_eq_swap, before_other_way, before_trans}
use Rattle.sheet_types.proofs.Every.{All-weaker}
use Rattle.sheet_types.proofs.KeyOrder.{slice_cmp_append, then_assoc}

-- a list whose neighbours rise is a set
rising : {X : Type 0} (key : X → List ℕ) (xs : List X) → AllAdjacentBelow
    (λ x y. is_before (key x) (key y) ≡ true) xs
    (length xs) → IsArranged key xs
rising key [] h = tt
rising key (x ∷ []) h = (tt, tt)
rising key (x ∷ y ∷ ys) h =
    let rest = rising key (y ∷ ys) (λ k d less. let e : suc k + 1 ≡ suc (k + 1) =
    omega arith in subst (λ n. is_before (key (get_or (x ∷ y ∷ ys) (suc k) d)) (key (get_or (x ∷ y ∷ ys) n d))
    ≡ true) e (h (suc k) d (omega (arith, less)))) in
    let first : is_before (key x) (key y) ≡ true = h 0 x (omega arith) in
    ((first, All-weaker _ _ (λ z later. before_trans (key x) (key y) (key z) first later) ys rest.0), rest)

-- each element of a set stands before the next
each_before : {X : Type 0} (key : X → List ℕ) (xs : List X) → IsArranged key xs → (k : ℕ) (d : X)
    → k + 1 < length xs
    → is_before (key (get_or xs k d)) (key (get_or xs (k + 1) d)) ≡ true
each_before key [] h k d less = absurd (omega (arith, less))
each_before key (x ∷ []) h k d less = absurd (omega (arith, less))
each_before key (x ∷ y ∷ ys) h zero d less = h.0.0
each_before key (x ∷ y ∷ ys) h (suc k) d less =
    let e : suc k + 1 ≡ suc (k + 1) = omega arith in
    subst (λ n. is_before (key (get_or (x ∷ y ∷ ys) (suc k) d)) (key (get_or (x ∷ y ∷ ys) n d)) ≡ true)
    (sym e)
    (each_before key (y ∷ ys) h.1 k d (omega (arith, less)))

-- an element and the next have two keys
differ : {X : Type 0} (key : X → List ℕ) (xs : List X) → IsDistinct bytes_eq (map key xs) → (k : ℕ) (d : X)
    → k + 1 < length xs → bytes_eq (key (get_or xs (k + 1) d)) (key (get_or xs k d)) ≡ false
unfolding IsDistinct
differ key [] h k d less = absurd (omega (arith, less))
differ key (x ∷ []) h k d less = absurd (omega (arith, less))
differ key (x ∷ y ∷ ys) h zero d less = bytes_eq_swap (key y) (key x) ∙ h.0.0
differ key (x ∷ y ∷ ys) h (suc k) d less =
    let e : suc k + 1 ≡ suc (k + 1) = omega arith in
    subst (λ n. bytes_eq (key (get_or (x ∷ y ∷ ys) n d)) (key (get_or (x ∷ y ∷ ys) (suc k) d)) ≡ false)
    (sym e)
    (differ key (y ∷ ys) h.1 k d (omega (arith, less)))

-- where none stands before the one that it follows, and keys differ
pub sorted_set : {X : Type 0} (key : X → List ℕ) (xs : List X)
    → ((k : ℕ) (d : X) → k + 1 < length xs → is_before (key (get_or xs (k + 1) d)) (key (get_or xs k d))
    ≡ false)
    → IsDistinct bytes_eq (map key xs) → IsArranged key xs
sorted_set key xs sorted apart = rising key xs (λ k d less. before_other_way (key (get_or xs (k + 1) d))
    (key (get_or xs k d)) (sorted k d less) (differ key xs apart k d less))

-- whether each element was found before the next tells whether they are a set
pub arranged_answer : {X : Type 0} (key : X → List ℕ) (xs : List X) (r : Bool)
    → IsAllAdjacentAnswer (λ x y b. b ≡ is_before (key x) (key y)) xs r
    → MatchBool r (IsArranged key xs) (IsArranged key xs → ⊥)
arranged_answer key xs true h = rising key xs (λ k d less. sym (h k d less))
arranged_answer key [] false h = absurd (omega (arith, h.1))
arranged_answer key (x ∷ xs) false h = λ set. true≢false (sym (each_before key (x ∷ xs) set h.0 x h.1)
    ∙ sym (h.2 x))

-- in another order the keys differ still
pub moved_apart : {X : Type 0} (key : X → List ℕ) (xs ys : List X) → IsPermutation xs ys
    → IsDistinct bytes_eq (map key xs) → IsDistinct bytes_eq (map key ys)
moved_apart key xs ys moved apart = IsDistinct-IsPermutation bytes_eq bytes_eq_swap (map key xs) (map key ys)
    (IsPermutation-map key xs ys moved) apart

-- the order of links is that of mapping, base and medium in turn, where the bases are of one length
pub end_ordered : (m n : ℕ) (xs ys us vs : List ℕ) → length xs ≡ length ys
    → is_before (m ∷ xs ++ us) (n ∷ ys ++ vs) ≡ is_lt (ordering_then
    (ordering_then (nat_cmp m n) (slice_cmp nat_cmp xs ys)) (slice_cmp nat_cmp us vs))
end_ordered m n xs ys us vs long =
    ap (λ o. is_lt (ordering_then (nat_cmp m n) o)) (slice_cmp_append xs ys us vs long)
    ∙ ap is_lt (then_assoc (nat_cmp m n) (slice_cmp nat_cmp xs ys) (slice_cmp nat_cmp us vs))
