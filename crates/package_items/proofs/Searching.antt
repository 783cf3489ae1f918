-- What a binary search among sorted keys tells of all of them.
use Rattle.std.proofs.Common.{◌≡◌, ℕ, List, length, false, Result, Ok, Err, Less, Greater, inl, inr, arith}
use Rattle.std.proofs.Common.{sym, ap}
use Rattle.std.specs.Prelude.{IsSorted}
use Rattle.std.specs.List.{All, list_any}
use Rattle.std.specs.List.Sorted.{IsBinarySearchResult, IsSearchInRange, IsPartitionPoint}
use Rattle.std.specs.Cmp.{IsTotalOrder}
use Rattle.std.specs.Ordering.{eq_by_cmp, is_eq}
use Rattle.std.specs.Result.{is_ok}
use Rattle.std.specs.declared.cmp.Ordering.{Ordering}
use Rattle.std.proofs.lemmas.Bool.{cases_lt}
use Rattle.std.proofs.lemmas.List.Folds.{list_any_none, list_any_at}
use Rattle.std.proofs.lemmas.List.Sorted.{searchable_from_sorted}

-- found where some key is equal, and only there
pub searched_any : {K : Type 0} {R : K → K → Ordering} → IsTotalOrder R
    → (xs : List K) (x : K) (r : Result ℕ ℕ)
    → IsSorted R xs → IsSearchInRange r (length xs) → IsBinarySearchResult (λ y. R y x) xs r
    → is_ok r ≡ list_any (λ k. eq_by_cmp R k x) xs
searched_any {R = R} order xs x (Ok i) sorted within found =
    sym (list_any_at (λ k. eq_by_cmp R k x) xs i x within (ap is_eq (found x)))
searched_any {K} {R} order xs x (Err i) sorted within found = sym (list_any_none (λ k. eq_by_cmp R k x) xs none)
  where
    parts : IsPartitionPoint (λ y. R y x ≡ Less) (λ y. R y x ≡ Greater) xs i
    parts = found (searchable_from_sorted order (λ k. k) xs x sorted)

    none : All (λ k. eq_by_cmp R k x ≡ false) xs
    none k d less = elim (cases_lt k i) [
      | inr high ↦ ap is_eq (parts.1 k d high less)
      | inl low ↦ ap is_eq (parts.0 k d (omega arith) low)
    ]
