-- What `SELECT * FROM t WHERE .. ORDER BY .. LIMIT 1` answers.
use Rattle.std.proofs.Common.{◌≡◌, ◌⊎◌, inl, inr, ℕ, pos, List, [], ◌∷◌, map, take, true, false}
use Rattle.std.proofs.Common.{refl, sym, ap, subst, ◌∙◌, Result, arith, Ordering, Less, Equal, Greater}
use Rattle.std.proofs.lemmas.List.{length-map, nil_from_length}
use Rattle.std.specs.Prelude.{filter, IfOk, IfErr}
use Rattle.std.specs.List.{AllByRecursion}
use Rattle.std.specs.List.Sorted.{IsPermutation}
use Rattle.std.specs.Ordering.{on, is_gt, ordering_reverse}
use Rattle.std.specs.Cmp.{IsTotalOrder}
use Rattle.std.proofs.lemmas.Cmp.{on_total}
use Rattle.std.proofs.lemmas.List.Sorted.{length_permutation, IsPermutation-sym}
use Rattle.sqlite_trees.proofs.ListLemmas.{all_from_map, all-permutation}
use Rattle.sqlite_rules.proofs.ListLemmas.{all_from}
use Rattle.sqlite_trees.specs.Tree.{IsAscending}
use Rattle.sqlite_exec.proofs.PartitionLemmas.{ascending_from_sorted}
use Rattle.sqlite_sql.proofs.QueryLemmas.{key_cmp_total}
use Rattle.sqlite_rules.specs.Lists.{Has}
use Rattle.sqlite.specs.Order.{Row}
use Rattle.sqlite.specs.Query.{key_cmp}
use Rattle.sqlite_value.specs.declared.keys.Key.{Key}
use Rattle.sqlite.specs.declared.types.Value.TheVariants.{Int}
use Rattle.sqlite.specs.Term.{Term, lit}
use Rattle.sqlite.specs.Table.{Table}
use Rattle.sqlite.specs.State.{State, HasCleanDisk, Survives, Shown, FailsToQuery, IsTooLate}
use Rattle.sqlite.specs.declared.error.Error.{Error}
use Rattle.store_sql.specs.Spelling.{Spelling, spelled, unspelled}
use Rattle.store_sql.specs.Reading.{Test, Listing, IsListing, ShowsFirst, FindsFirst}
use Rattle.store_sql.specs.Transactions.{Steps}
use Rattle.store_sql.proofs.Where.{are_given}
use Rattle.store_sql.proofs.Select.{IsPaged, IsPlannedPage, IsAsked, asked_page, answer_is, page_of, listing_of}
use Rattle.store_sql.proofs.Select.{listing_showing}
use Rattle.store_sql.proofs.Answering.{shown_unchanged, read_steps}

has_from_map : {A B : Type 0} (f : A → B) (xs : List A) (y : B) → Has (map f xs) y → (x : A) × Has xs x
    × (y ≡ f x)
has_from_map f [] y h = absurd h
has_from_map f (x ∷ xs) y (inl same) = (x, inl refl, same)
has_from_map f (x ∷ xs) y (inr later) = let it = has_from_map f xs y later in (it.0, inr it.1, it.2)

not_above : (o : Ordering) → o ≡ ordering_reverse o → is_gt o ≡ false
not_above Less h = refl
not_above Equal h = refl
not_above Greater h = absurd cc

module _ (key shown : Row → Row) (by : List Key) where
  abbrev pair : Row → Row × Row
  pair r = (key r, shown r)

  abbrev cmp : Row × Row → Row × Row → Ordering
  cmp = on (λ (o : Row × Row). o.0) (key_cmp 0 by)

  total : IsTotalOrder cmp
  total = on_total (λ (o : Row × Row). o.0) (key_cmp_total by 0)

  at_front : (xs : List Row) (ordered : List (Row × Row)) → IsPermutation (map pair xs) ordered
      → IsAscending (λ a b. is_gt (cmp a b) ≡ false) ordered
      → ShowsFirst key shown by xs (take 1 (map (λ o. o.1) ordered))
  at_front xs [] same up = inl (
    nil_from_length xs (omega (
      arith,
      rw length-map at
          (length_permutation (map pair xs) [] same),
    )),
    refl,
  )
  at_front xs (o ∷ more) same up =
      let has = all-permutation (Has (map pair xs)) (map pair xs) (o ∷ more) same
      (all_from (Has (map pair xs)) (map pair xs) (λ _ there. there)) in
      let r = has_from_map pair xs o has.0 in
      let P : Row × Row → Type 0 = λ z. is_gt (cmp o z) ≡ false in
      let each : AllByRecursion P (o ∷ more) = (not_above (cmp o o) (total.antisymm o o), up.0) in
      let back = all-permutation P (o ∷ more) (map pair xs) (IsPermutation-sym (map pair xs) (o ∷ more) same)
      each in
      let least = all_from_map P pair xs back in
      inr (
        r.0,
        record {
          there = r.1;
          least = subst (λ (z : Row × Row). AllByRecursion
              (λ x. is_gt (key_cmp 0 by z.0 (key x)) ≡ false) xs) r.2 least;
        },
        ap (λ (z : Row × Row). z.1 ∷ [])
            r.2,
      )

  pub listing_first : (xs all rows : List Row) → IsListing key shown by xs all → rows ≡ take 1 all
      → ShowsFirst key shown by xs rows
  listing_first xs all rows h cut = subst (ShowsFirst key shown by xs) (sym (cut ∙ ap (take 1) h.shows))
      (at_front xs h.ordered h.same (ascending_from_sorted cmp total h.ordered h.sorted))

-- ---- the text

-- LIMIT 1
abbrev pub one_row : Term × Term
one_row = (lit (Int (pos 1)), lit (Int (pos 0)))

-- the text is `SELECT * FROM t .. LIMIT 1`
abbrev pub IsFirst : List ℕ → Table → Test → List (Term × Key) → Type 0
IsFirst text t test by = IsPaged text t test by one_row

abbrev pub IsPlannedFirst : Table → Test → List (Term × Key) → Type 0
IsPlannedFirst t test by = IsPlannedPage t test by one_row

module _ {text : List ℕ} {table : ℕ → Table} {test : Test} {project : Spelling → List Term}
    {by : List (Term × Key)} (it : (spelling : Spelling) → IsAsked text (spelled table spelling) test
    (project spelling) by one_row)
    (params : Row) (given : are_given test params ≡ true) (l : Listing)
    (is : (spelling : Spelling) → listing_showing (project spelling) (spelled table spelling) test by params
    ≡ l) where
  pub asked_first : (old new : State) (rows : List Row) → Shown text params old new rows
      → FindsFirst table l rows old.now new.now
  asked_first old new rows shown = record {
    same = (shown_unchanged text (it unspelled).parse (it unspelled).asks (it unspelled).parsed
        (it unspelled).statement params old new rows shown).0.now_is;
    first = λ at spelling has.
        let t = spelled table spelling in
        let all = page_of old.now.schema at t has test (project spelling) by one_row old.now.trees params rows given
        (answer_is (it spelling) params old new at has rows shown) in
        subst (λ (m : Listing). ShowsFirst m.key m.shown m.by (filter m.keeps (old.now.trees t.tree)) rows)
        (is spelling) (listing_first _ _ _ _ all.0 rows all.1 all.2);
  }

  -- in a transaction
  pub asked_first_steps : {X : Type 0} (items : X → List Row) (old new : State) (r : Result X Error)
      → (HasCleanDisk new → IfOk r (λ x. Shown text params old new (items x)))
      → (HasCleanDisk new → IfErr r (λ e. FailsToQuery text params old new e
      ⊎ IsTooLate text params old new e)) → Survives old new (λ _. ⊥)
      → Steps (λ x. FindsFirst table l (items x)) old new r
  asked_first_steps items old new r ok err survives =
      read_steps text (it unspelled).parse (it unspelled).asks (it unspelled).parsed (it unspelled).statement items
      params old new r (λ x. FindsFirst table l (items x)) (λ x shown. asked_first old new (items x) shown) ok
      err survives

-- ---- of all columns

module _ (text : List ℕ) (table : ℕ → Table) (test : Test) (by : List (Term × Key))
    (it : (spelling : Spelling) → IsFirst text (spelled table spelling) test by)
    (plan : (spelling : Spelling) → IsPlannedFirst (spelled table spelling) test by)
    (params : Row) (given : are_given test params ≡ true) (l : Listing)
    (is : (spelling : Spelling) → listing_of (spelled table spelling) test by params ≡ l) where
  pub first_found : (old new : State) (rows : List Row) → Shown text params old new rows
      → FindsFirst table l rows old.now new.now
  first_found old new rows shown = asked_first (λ spelling. asked_page (it spelling) (plan spelling)) params given l
      is old new rows shown

  pub first_steps : {X : Type 0} (items : X → List Row) (old new : State) (r : Result X Error)
      → (HasCleanDisk new → IfOk r (λ x. Shown text params old new (items x)))
      → (HasCleanDisk new → IfErr r (λ e. FailsToQuery text params old new e
      ⊎ IsTooLate text params old new e)) → Survives old new (λ _. ⊥)
      → Steps (λ x. FindsFirst table l (items x)) old new r
  first_steps items old new r ok err survives = asked_first_steps
      (λ spelling. asked_page (it spelling) (plan spelling)) params given l is items old new r ok err survives
