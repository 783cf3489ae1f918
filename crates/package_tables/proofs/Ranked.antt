-- An answer in the order of a number.
use Rattle.std.proofs.Common.{◌≡◌, ℕ, ℤ, ◌≤ℤ◌, List, [], ◌∷◌, map, false, sym, ap, subst}
use Rattle.std.proofs.Common.{◌∙◌, Ordering}
use Rattle.std.specs.List.{AllByRecursion}
use Rattle.std.specs.Ordering.{is_gt, on}
use Rattle.sqlite_exec.proofs.PartitionLemmas.{ascending_from_sorted}
use Rattle.std.proofs.lemmas.Cmp.{on_total}
use Rattle.std.proofs.lemmas.List.Sorted.{All-permutation}
use Rattle.std.proofs.lemmas.List.Elements.{recursion_from_All, All-from_recursion}
use Rattle.sqlite_sql.proofs.QueryLemmas.{key_cmp_total}
use Rattle.sqlite_trees.specs.Tree.{IsAscending}
use Rattle.sqlite_value.specs.Order.{value_cmp}
use Rattle.sqlite_value.specs.declared.keys.Key.{Key}
use Rattle.sqlite_value.proofs.OrderLemmas.{value_cmp-Int, then-Equal}
use Rattle.sqlite.specs.Order.{Row, column}
use Rattle.sqlite.specs.Query.{key_cmp}
use Rattle.sqlite.specs.declared.types.Value.TheVariants.{Int}
use Rattle.store_sql.specs.Reading.{IsListing, ascending}
use Rattle.package_tables.specs.Calls.{Rises}
use Rattle.package_tables.proofs.Newest.{not_above}

module _ {R : Type 0} (shown : R → Row) (number : R → ℤ) (place : ℕ)
    (numbered : (x : R) → column (shown x) place ≡ Int (number x)) where
  abbrev by : List Key
  by = ascending ∷ []

  abbrev cmp : Row × Row → Row × Row → Ordering
  cmp = on (λ (o : Row × Row). o.0) (key_cmp 0 by)

  abbrev IsPaired : Row × Row → Type 0
  IsPaired o = o.0 ≡ column o.1 place ∷ []

  above : (o : Row × Row) (x : R) → o.0 ≡ Int (number x) ∷ [] → (os : List (Row × Row)) (xs : List R)
      → map (λ (z : Row × Row). z.1) os ≡ map shown xs → AllByRecursion IsPaired os
      → AllByRecursion (λ z. is_gt (cmp o z) ≡ false) os
      → AllByRecursion (λ y. number x ≤ℤ number y) xs
  above o x is [] [] e each up = tt
  above o x is [] (y ∷ ys) e each up = absurd cc
  above o x is (z ∷ os) [] e each up = absurd cc
  above o x is (z ∷ os) (y ∷ ys) e each up =
      let head : z.1 ≡ shown y = cc in
      let tail : map (λ (k : Row × Row). k.1) os ≡ map shown ys = cc in
      let its : z.0 ≡ Int (number y) ∷ [] = each.0 ∙ ap (λ v. v ∷ [])
      (ap (λ r. column r place) head ∙ numbered y) in
      let keyed : is_gt (key_cmp 0 by (Int (number x) ∷ []) (Int (number y) ∷ [])) ≡ false =
      subst (λ k. is_gt (key_cmp 0 by k (Int (number y) ∷ [])) ≡ false) is
      (subst (λ k. is_gt (key_cmp 0 by o.0 k) ≡ false) its up.0) in
      let compared : is_gt (value_cmp (Int (number x)) (Int (number y))) ≡ false =
      ap is_gt (sym (then-Equal (value_cmp (Int (number x)) (Int (number y))))) ∙ keyed in (
        not_above (number x) (number y) (ap is_gt (sym (value_cmp-Int (number x) (number y))) ∙ compared),
        above o x
            is os ys tail each.1 up.1,
      )

  rising : (os : List (Row × Row)) (xs : List R) → map (λ (z : Row × Row). z.1) os ≡ map shown xs
      → AllByRecursion IsPaired os → IsAscending (λ a b. is_gt (cmp a b) ≡ false) os → Rises number xs
  rising [] [] e each up = tt
  rising [] (y ∷ ys) e each up = absurd cc
  rising (z ∷ os) [] e each up = absurd cc
  rising (z ∷ os) (y ∷ ys) e each up =
      let head : z.1 ≡ shown y = cc in
      let tail : map (λ (k : Row × Row). k.1) os ≡ map shown ys = cc in (
        above z y (each.0 ∙ ap (λ v. v ∷ []) (ap (λ r. column r place) head ∙ numbered y)) os ys tail each.1
            up.0,
        rising os ys tail each.1 up.1,
      )

  -- rows that were sorted by the column of the number
  pub ranked : (key listed : Row → Row) → ((r : Row) → key r ≡ column (listed r) place ∷ [])
      → (there rows : List Row) → IsListing key listed by there rows → (xs : List R) → rows ≡ map shown xs
      → Rises number xs
  ranked key listed keyed there rows h xs are = rising h.ordered xs (sym h.shows ∙ are) paired
      (ascending_from_sorted cmp (on_total (λ (o : Row × Row). o.0) (key_cmp_total by 0)) h.ordered h.sorted)
    where
      mapped : (ys : List Row) → AllByRecursion IsPaired (map (λ r. (key r, listed r)) ys)
      mapped [] = tt
      mapped (y ∷ ys) = (keyed y, mapped ys)

      paired : AllByRecursion IsPaired h.ordered
      paired = recursion_from_All IsPaired h.ordered (All-permutation IsPaired (map (λ r. (key r, listed r)) there)
          h.ordered h.same (All-from_recursion IsPaired (map (λ r. (key r, listed r)) there) (mapped there)))
