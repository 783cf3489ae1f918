-- What is kept of stores, one place after the other.
use Rattle.std.specs.Prelude.{◌≡◌, ℕ, suc, ◌+◌, ◌<◌, Bool, List, [], ◌∷◌, ◌++◌, length}
use Rattle.std.specs.Prelude.{refl, Option, Some, slice_get}
use Rattle.std.proofs.Common.{sym, ap, subst, ◌∙◌, arith, inl, inr}
use Rattle.sheet_types.proofs.Basics.{some_once}
use Rattle.sheet_types.specs.declared.receipt.Receipt.{Receipt}
use Rattle.sheet_types.specs.declared.receipt.Sums.{Sums}
use Rattle.opening_faults.specs.declared.sights.StoreHead.{StoreHead}
use Rattle.opening_verdict.specs.Tallies.{IsKeptAt}
use Rattle.opening_verdict.specs.declared.verdict.Kept.{Kept}
use Rattle.opening_verdict.proofs.Lists.{place_of_snoc}

module _ (ledger : List Receipt) (heads : List (Option StoreHead)) (live : List Bool) (sums : List (Option Sums)) where
  -- of those before a place
  pub record IsKeeping (place : ℕ) (kept : List (Option Kept)) : Type 0 where
    pub long : length kept ≡ place
    pub each : (i : ℕ) (head : Option StoreHead) (b : Bool) (o : Option Sums) (k : Option Kept)
        → slice_get heads i ≡ Some head
        → slice_get live i ≡ Some b → slice_get sums i ≡ Some o → slice_get kept i ≡ Some k
        → IsKeptAt ledger head b o k

  pub keeps_on : (i : ℕ) (kept : List (Option Kept)) (head : Option StoreHead) (b : Bool) (o : Option Sums)
      (k : Option Kept)
      → slice_get heads i ≡ Some head → slice_get live i ≡ Some b → slice_get sums i ≡ Some o
      → IsKeeping i kept → IsKeptAt ledger head b o k → IsKeeping (i + 1) (kept ++ k ∷ [])
  keeps_on i kept head b o k is_s is_b is_o h now = record {
    long = long_snoc kept ∙ ap (λ n. n + 1) h.long;
    each = λ j head' b' o' k' at_s at_b at_o at_k. elim (place_of_snoc kept k j k' at_k) [
      | inl before ↦ h.each j head' b' o' k' at_s at_b at_o before
      | inr here ↦
          let j_is : j ≡ i = here.0 ∙ h.long in
          let s_is : head ≡ head' = some_once (slice_get heads i) head head' is_s
          (subst (λ n. slice_get heads n ≡ Some head') j_is at_s) in
          let b_is : b ≡ b' = some_once (slice_get live i) b b' is_b
          (subst (λ n. slice_get live n ≡ Some b') j_is at_b) in
          let o_is : o ≡ o' = some_once (slice_get sums i) o o' is_o
          (subst (λ n. slice_get sums n ≡ Some o') j_is at_o) in
          subst (λ x. IsKeptAt ledger head' b' o' x) here.1 (subst (λ x. IsKeptAt ledger head' b' x k) o_is
          (subst (λ x. IsKeptAt ledger head' x o k) b_is (subst (λ x. IsKeptAt ledger x b o k) s_is now)))
    ];
  }
    where
      long_snoc : (xs : List (Option Kept)) → length (xs ++ k ∷ []) ≡ length xs + 1
      long_snoc [] = refl
      long_snoc (x ∷ xs) = omega (arith, long_snoc xs)
