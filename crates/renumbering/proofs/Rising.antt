-- Keys that rise, and what a search finds among them.
use Rattle.std.proofs.Common.{◌≡◌, ℕ, ℤ, ◌<◌, ◌+◌, List, length, get_or, Result, Ok, Err, false, []}
use Rattle.std.proofs.Common.{◌∷◌, true, Bool}
use Rattle.std.proofs.Common.{cond, refl, sym, ap, ◌∙◌, subst, arith, ⊎_elim, ◌≤◌, IsPermutation, is_ok}
use Rattle.std.proofs.Common.{◌||◌}
use Rattle.std.specs.Prelude.{MatchResult}
use Rattle.std.specs.List.{list_any, dedup, dedup_from}
use Rattle.std.specs.List.Sorted.{IsSorted, IsStrictlySortedBy, IsBinarySearchResult, IsSearchInRange}
use Rattle.std.specs.Ordering.{MatchOrdering, is_lt, is_eq, int_cmp, int_eq, ordering_reverse}
use Rattle.std.specs.declared.cmp.Ordering.{Ordering}
use Rattle.std.specs.declared.cmp.Ordering.TheVariants.{Less, Equal, Greater}
use Rattle.std.proofs.lemmas.Cmp.{int_cmp_total, int_ranked}
use Rattle.std.proofs.lemmas.Map.Keys.{Less-from_sorted}
use Rattle.std.proofs.lemmas.List.Sorted.{searchable_from_sorted, list_any-IsPermutation}
use Rattle.std.specs.Cmp.{signed_Decides}
use Rattle.std.proofs.lemmas.Bool.{cases_order}
use Rattle.std.proofs.lemmas.List.Folds.{list_any_none, list_any_at}

-- keys that rise are in order
ordered : (xs : List ℤ) → IsStrictlySortedBy int_cmp xs → IsSorted int_cmp xs
ordered xs rises k d from last =
    ap is_lt (int_cmp_total.antisymm (get_or xs (k + 1) d) (get_or xs k d))
    ∙ ap (λ o. is_lt (ordering_reverse o)) (Less-from_sorted int_cmp xs k (k + 1) d rises (omega arith) last)

pub less_is_other : (x y : ℤ) → int_cmp y x ≡ Less → int_eq x y ≡ false
less_is_other x y e = ap is_eq (int_cmp_total.antisymm x y) ∙ ap (λ o. is_eq (ordering_reverse o)) e

greater_is_other : (x y : ℤ) → int_cmp y x ≡ Greater → int_eq x y ≡ false
greater_is_other x y e = ap is_eq (int_cmp_total.antisymm x y) ∙ ap (λ o. is_eq (ordering_reverse o)) e

-- a search answers the place of the key, and else the key is not there
pub searched : (xs : List ℤ) (x : ℤ) (r : Result ℕ ℕ) → IsStrictlySortedBy int_cmp xs
    → IsSearchInRange r (length xs)
    → IsBinarySearchResult (λ y. int_cmp y x) xs r
    → MatchResult r (λ i. (i < length xs) × ((d : ℤ) → get_or xs i d ≡ x))
    (λ _. list_any (int_eq x) xs ≡ false)
searched xs x (Ok i) rises range found = (range, λ d. int_ranked (get_or xs i d) x Equal (sym (found d)))
searched xs x (Err i) rises range found =
    let parted = found (searchable_from_sorted int_cmp_total (λ k. k) xs x (ordered xs rises)) in
    let after : (k : ℕ) (d : ℤ) → i ≤ k → k < length xs → int_eq x (get_or xs k d) ≡ false =
    λ k d past last. greater_is_other x (get_or xs k d) (parted.1 k d past last) in
    list_any_none (int_eq x) xs (λ k d last. ⊎_elim (λ same. after k d (omega arith) last)
    (λ apart. ⊎_elim (λ before. less_is_other x (get_or xs k d) (parted.0 k d (omega arith) before))
    (λ past. after k d (omega arith) last) apart) (cases_order k i))

-- the same test twice
or_same : (b c : Bool) → (b || c) ≡ (b || (b || c))
or_same true c = refl
or_same false c = refl

any_from : (q k : ℤ) (xs : List ℤ) → list_any (int_eq q) (dedup_from int_eq k xs)
    ≡ (int_eq q k || list_any (int_eq q) xs)
any_from q k [] = refl
any_from q k (x ∷ xs) =
    elim (int_eq x k) as (λ v. int_eq x k ≡ v → list_any (int_eq q)
    (cond v (dedup_from int_eq k xs) (k ∷ dedup_from int_eq x xs))
    ≡ (int_eq q k || (int_eq q x || list_any (int_eq q) xs))) [
      | true ↦ λ e. any_from q k xs ∙ or_same (int_eq q k) (list_any (int_eq q) xs)
          ∙ ap (λ y. int_eq q k || (int_eq q y || list_any (int_eq q) xs)) (sym ((signed_Decides x k).0 e))
      | false ↦ λ _. ap (λ b. int_eq q k || b) (any_from q x xs)
    ] refl

any_dedup : (q : ℤ) (xs : List ℤ) → list_any (int_eq q) (dedup int_eq xs) ≡ list_any (int_eq q) xs
any_dedup q [] = refl
any_dedup q (x ∷ xs) = any_from q x xs

-- sorting and leaving out what stands twice keeps the keys
pub same_keys : (keys copy sorted once : List ℤ) → copy ≡ keys → IsPermutation copy sorted
    → once ≡ dedup int_eq sorted → (key : ℤ) → list_any (int_eq key) once ≡ list_any (int_eq key) keys
same_keys keys copy sorted once same moved is key = ap (list_any (int_eq key)) is ∙ any_dedup key sorted
    ∙ sym (list_any-IsPermutation (int_eq key) copy sorted moved) ∙ ap (list_any (int_eq key)) same

-- whether a key is there, by a search
pub among_is : (xs : List ℤ) (x key : ℤ) (r : Result ℕ ℕ) (there : Bool) → x ≡ key → there ≡ is_ok r
    → MatchResult r (λ i. (i < length xs) × ((d : ℤ) → get_or xs i d ≡ x))
    (λ _. list_any (int_eq x) xs ≡ false)
    → there ≡ list_any (int_eq key) xs
among_is xs x key (Ok i) there same is found = is ∙ sym (list_any_at (int_eq key) xs i key found.0
    (ap (int_eq key) (found.1 key ∙ same) ∙ (signed_Decides key key).1 refl))
among_is xs x key (Err i) there same is none = is ∙ sym none ∙ ap (λ k. list_any (int_eq k) xs) same
