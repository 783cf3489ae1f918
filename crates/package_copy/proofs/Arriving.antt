-- Rows in order come in one after the other, each behind those before it.
use Rattle.std.proofs.Common.{◌≡◌, ℕ, suc, zero, ◌+◌, ◌<◌, List, [], ◌∷◌, ◌++◌, length}
use Rattle.std.proofs.Common.{get_or, take, true, false}
use Rattle.std.proofs.Common.{refl, sym, ap, subst, ◌∙◌, arith}
use Rattle.std.specs.List.{AllByRecursion, AllAdjacentBelow}
use Rattle.std.proofs.lemmas.List.{take_more}
use Rattle.sqlite.specs.State.{State}
use Rattle.sheet_types.specs.Ordered.{has, is_before, put, IsArranged}
use Rattle.sheet_types.proofs.Basics.{before_trans, before-differs}
use Rattle.sheet_types.proofs.Every.{All-weaker}
use Rattle.sheet_types.proofs.Order.{put_last}
use Rattle.store_sql.specs.Transactions.{Steps}
use Rattle.package_tables.specs.Calls.{OnTables}
use Rattle.package_tables.specs.Changes.{Adds, ListBecomes}
use Rattle.package_tables.specs.Listed.{Listed}
use Rattle.package_tables.specs.declared.fault.Fault.{Fault}
use Rattle.package_tables.proofs.InTurn.{Done, done, made_by, made_then}
use Rattle.package_tables.proofs.Lists.{IsListed}

-- ---- lists in order

module _ {X : Type 0} (key : X → List ℕ) where
  -- keys that rise from each element to the next rise to each later one
  pub rising : (xs : List X) → AllAdjacentBelow (λ x y. is_before (key x) (key y) ≡ true) xs (length xs)
      → IsArranged key xs
  rising [] h = tt
  rising (x ∷ []) h = (tt, tt)
  rising (x ∷ y ∷ ys) h =
      let rest = rising (y ∷ ys) (λ k d less. let e : suc k + 1 ≡ suc (k + 1) =
      omega arith in subst (λ n. is_before (key (get_or (x ∷ y ∷ ys) (suc k) d))
      (key (get_or (x ∷ y ∷ ys) n d)) ≡ true) e (h (suc k) d (omega (arith, less)))) in
      let first : is_before (key x) (key y) ≡ true = h 0 x (omega arith) in
      ((first, All-weaker _ _ (λ z later. before_trans (key x) (key y) (key z) first later) ys rest.0), rest)

  each_at : (P : X → Type 0) (xs : List X) (k : ℕ) (d : X) → AllByRecursion P xs → k < length xs
      → P (get_or xs k d)
  each_at P [] k d h less = absurd (omega (arith, less))
  each_at P (x ∷ xs) zero d h less = h.0
  each_at P (x ∷ xs) (suc k) d h less = each_at P xs k d h.1 (omega (arith, less))

  earlier : (xs : List X) (k : ℕ) (d : X) → IsArranged key xs → k < length xs
      → AllByRecursion (λ y. is_before (key y) (key (get_or xs k d)) ≡ true) (take k xs)
  earlier [] k d h less = absurd (omega (arith, less))
  earlier (x ∷ xs) zero d h less = tt
  earlier (x ∷ xs) (suc k) d h less = (
    each_at (λ y. is_before (key x) (key y) ≡ true) xs k d h.0
        (omega (arith, less)),
    earlier xs k d h.1 (omega (arith, less)),
  )

  none_has : (x : X) (xs : List X) → AllByRecursion (λ y. is_before (key y) (key x) ≡ true) xs
      → has key (key x) xs ≡ false
  none_has x [] h = refl
  none_has x (y ∷ ys) h = rw (before-differs (key y) (key x) h.0) (none_has x ys h.1)

-- ---- a list that was empty has the rows so far

module _ {R : Type 0} {list : Listed R} (is : IsListed list) where
  pub comes_next : (xs : List R) (k : ℕ) (d x : R) {old mid new : State} {r : Done} → IsArranged list.shape.key xs
      → k < length xs → x ≡ get_or xs k d
      → Steps {X = Unit {0}} {E = Fault} (λ _. OnTables (ListBecomes list [] (take k xs))) old mid done
      → Steps (λ _. OnTables (Adds list x)) mid new r
      → Steps (λ _. OnTables (ListBecomes list [] (take (k + 1) xs))) old new r
  comes_next xs k d x order less same first step =
      let before : AllByRecursion (λ y. is_before (list.shape.key y) (list.shape.key x) ≡ true) (take k xs) =
      subst (λ z. AllByRecursion (λ y. is_before (list.shape.key y) (list.shape.key z) ≡ true) (take k xs))
      (sym same)
      (earlier list.shape.key xs k d order less) in
      let whole : put list.shape.key x (take k xs) ≡ take (k + 1) xs =
      put_last list.shape.key x (take k xs) before ∙ sym
      (take_more xs k d less ∙ ap (λ z. take k xs ++ z ∷ []) (sym same)) in
      made_then is [] (take k xs) (take (k + 1) xs) first (made_by is x (take k xs) (take (k + 1) xs)
      (none_has list.shape.key x (take k xs) before) whole step)
