-- From `SELECT c .. ORDER BY c DESC LIMIT 1` to the greatest number of the rows that pass, inside a transaction.
use Rattle.std.proofs.Common.{◌≡◌, ◌⊎◌, inl, inr, ℕ, ℤ, ◌≤ℤ◌, List, [], ◌∷◌, map, Bool}
use Rattle.std.proofs.Common.{true, false, Option, Some, None, Result, sym, ap, subst, ◌∙◌, Ordering, Less}
use Rattle.std.proofs.Common.{Equal, Greater, arith, suc}
use Rattle.std.specs.Prelude.{filter, IfOk, IfErr, Contains, ◌<ℤ◌}
use Rattle.std.specs.List.{AllByRecursion}
use Rattle.std.specs.Ordering.{is_gt, int_cmp, MatchOrdering}
use Rattle.std.specs.Cmp.{int_ranks, int_chain}
use Rattle.std.specs.Int.Signed.{≤ℤ_refl, <ℤ_irrefl}
use Rattle.std.proofs.lemmas.Int.{by_lt_z}
use Rattle.std.proofs.lemmas.Bool.{true≢false}
use Rattle.std.proofs.lemmas.List.Elements.{All-from_recursion}
use Rattle.std.proofs.lemmas.List.Sorted.{IsPermutation-map, Contains-permutation}
use Rattle.sqlite_rules.specs.Lists.{Has}
use Rattle.sqlite_rules.proofs.ListLemmas.{all_has}
use Rattle.sqlite_value.specs.Order.{value_cmp}
use Rattle.sqlite_value.proofs.OrderLemmas.{value_cmp-Int}
use Rattle.sqlite_value.specs.declared.keys.Key.{Key}
use Rattle.sqlite.specs.Order.{Row, column}
use Rattle.sqlite.specs.Term.{Term}
use Rattle.sqlite.specs.Tree.{rowid}
use Rattle.sqlite.specs.Effect.{Database}
use Rattle.sqlite.specs.declared.error.Error.{Error}
use Rattle.sqlite.specs.declared.types.Value.{Value}
use Rattle.sqlite.specs.declared.types.Value.TheVariants.{Int}
use Rattle.sqlite.specs.State.{State, HasCleanDisk, Shown, FailsToQuery, IsTooLate}
use Rattle.sqlite_trees.proofs.ListLemmas.{map-map}
use Rattle.sheet_types.specs.Ordered.{arranged}
use Rattle.sheet_types.proofs.Order.{All-arranged}
use Rattle.store_sql.specs.Reading.{Test, Listing, ShowsFirst, FindsFirst, descending}
use Rattle.store_sql.specs.Spelling.{Spelling, spelled, unspelled}
use Rattle.store_sql.proofs.Select.{IsAsked, listing_showing}
use Rattle.store_sql.proofs.First.{one_row, asked_first}
use Rattle.store_sql.proofs.Where.{are_given}
use Rattle.store_sql.proofs.Greatest.{greatest_of}
use Rattle.package_tables.specs.Shape.{Shape, IsStored, stored_rows}
use Rattle.package_tables.specs.Package.{tables_of, AreFormed}
use Rattle.package_tables.specs.Listed.{Listed}
use Rattle.package_tables.specs.Calls.{Tells, IsGreatest}
use Rattle.package_tables.specs.Shown.{BeginsWith}
use Rattle.package_tables.specs.declared.fault.Fault.{Fault}
use Rattle.sheet_types.proofs.Every.{All-filter}
use Rattle.package_tables.proofs.Shapes.{rows_placed, arranged-filter}
use Rattle.package_tables.proofs.Reading.{arranged_permutation}
use Rattle.package_tables.proofs.Looking.{IsKnown, AreSaid, told}

pub not_above : (a b : ℤ) → is_gt (int_cmp a b) ≡ false → a ≤ℤ b
not_above a b h = one (int_cmp a b) (int_ranks a b) h
  where
    one : (o : Ordering) → MatchOrdering o (a <ℤ b) (a ≡ b) (b <ℤ a) → is_gt o ≡ false → a ≤ℤ b
    one Less lower e = by_lt_z b a (λ above. absurd (<ℤ_irrefl (int_chain a b a lower above))) (λ le. le)
    one Equal same e = subst (λ c. a ≤ℤ c) same (≤ℤ_refl a)
    one Greater above e = absurd (true≢false e)

pub has_mapped : {A B : Type 0} (f : A → B) (xs : List A) (x : A) → Has xs x → Contains (map f xs) (f x)
has_mapped f [] x h = absurd h
has_mapped f (y ∷ xs) x (inl same) = (0, omega arith, ap f (sym same))
has_mapped f (y ∷ xs) x (inr later) = let (k, below, is) = has_mapped f xs x later in
    (suc k, omega (arith, below), is)

-- the first of some stored rows in descending order has the greatest number of their values
module _ {R : Type 0} (shape : Shape R) (number : R → ℤ) (shown : Row → Row) (place : ℕ)
    (begins : (v : Value) (x : R) → column (shown (shape.stored v x)) 0 ≡ Int (number x))
    (keyed : (v : Value) (x : R) → column (shape.stored v x) place ≡ Int (number x)) where
  none_above : (top : ℤ) (r : Row) → column r place ≡ Int top → (rows : List Row)
      → AllByRecursion (IsStored shape) rows → AllByRecursion
      (λ x. is_gt (value_cmp (column x place) (column r place)) ≡ false) rows
      → AllByRecursion (λ x. number x ≤ℤ top) (map shape.typed rows)
  none_above top r is [] stored most = tt
  none_above top r is (x ∷ rows) stored most =
      let mine : column x place ≡ Int (number (shape.typed x)) =
      ap (λ s. column s place) (sym stored.0) ∙ keyed (rowid x) (shape.typed x) in (
        not_above (number (shape.typed x)) top (ap is_gt (sym (value_cmp-Int (number (shape.typed x)) top))
            ∙ rw (← mine, ← is) most.0),
        none_above top r is rows stored.1 most.1,
      )

  greatest_in : (xs rows : List Row) → AllByRecursion (IsStored shape) xs → (found : Option ℤ)
      → BeginsWith rows found → ShowsFirst (λ r. column r place ∷ []) shown (descending ∷ []) xs rows
      → IsGreatest number (arranged shape.key (map shape.typed xs)) found
  greatest_in xs rows stored None empty (inl none) = ap (λ k. arranged shape.key (map shape.typed k)) none.0
  greatest_in xs rows stored None empty (inr one) = absurd (let e = sym one.2 ∙ empty in cc)
  greatest_in xs rows stored (Some n) head (inl none) = absurd (let e = rw none.1 at head.1 in cc)
  greatest_in xs rows stored (Some n) head (inr one) =
      let r = one.0 in
      let mine : IsStored shape r = all_has (IsStored shape) xs r stored one.1.there in
      let e = rw one.2 at head.1 in
      let same : shown r ≡ head.0 = cc in
      let number_is : Int n ≡ Int (number (shape.typed r)) =
      sym head.2 ∙ ap (λ k. column k 0) (sym same) ∙ ap (λ k. column (shown k) 0) (sym mine)
      ∙ begins (rowid r) (shape.typed r) in
      let n_is : n ≡ number (shape.typed r) = cc in
      let top : column r place ≡ Int n = ap (λ s. column s place) (sym mine) ∙ keyed (rowid r) (shape.typed r)
      ∙ sym number_is in
      let most = none_above n r top xs stored (greatest_of place xs r one.1) in
      let has = has_mapped (λ k. number (shape.typed k)) xs r one.1.there in
      let mapped : Contains (map number (map shape.typed xs)) n =
      subst (λ k. Contains k n) (sym (map-map number shape.typed xs))
      (subst (Contains (map (λ k. number (shape.typed k)) xs)) (sym n_is) has) in
      let moved = IsPermutation-map number _ _ (arranged_permutation shape.key (map shape.typed xs)) in (
        Contains-permutation _ _ n moved mapped,
        All-from_recursion (λ x. number x ≤ℤ n) _
            (All-arranged shape.key (λ x. number x ≤ℤ n) (map shape.typed xs) most),
      )

-- what the text is with these parameters, and how the rows carry their numbers
pub record IsNewest {R : Type 0} (shape : Shape R) (number : R → ℤ) (text : List ℕ) (params : Row)
    (keeps : R → Bool) : Type 0 where
  pub test : Test
  pub project : Spelling → List Term
  pub by : List (Term × Key)
  pub asked : (spelling : Spelling) → IsAsked text (spelled shape.table spelling) test (project spelling) by one_row
  pub given : are_given test params ≡ true
  pub pass : Row → Bool
  pub shown : Row → Row
  pub place : ℕ
  pub is : (spelling : Spelling) → listing_showing (project spelling) (spelled shape.table spelling) test by params
      ≡ record { keeps = pass; key = λ r. column r place ∷ []; shown = shown; by = descending ∷ [] }
  pub passing : (v : Value) (x : R) → pass (shape.stored v x) ≡ keeps x
  pub begins : (v : Value) (x : R) → column (shown (shape.stored v x)) 0 ≡ Int (number x)
  pub keyed : (v : Value) (x : R) → column (shape.stored v x) place ≡ Int (number x)

module _ {R : Type 0} {list : Listed R} {shown' : R → Row} (known : IsKnown list shown') {number : R → ℤ}
    {text : List ℕ} {params : Row} {keeps : R → Bool} (newest :
    IsNewest list.shape number text params keeps) where
  abbrev listing : Listing
  listing = record {
    keeps = newest.pass;
    key = λ r. column r newest.place ∷ [];
    shown = newest.shown;
    by = descending ∷ [];
  }

  tested : (rows : List Row) → AllByRecursion (IsStored list.shape) rows
      → AllByRecursion (λ r. newest.pass r ≡ keeps (list.shape.typed r)) rows
  tested [] h = tt
  tested (r ∷ rows) h = (ap newest.pass (sym h.0) ∙ newest.passing (rowid r) (list.shape.typed r), tested rows h.1)

  answered : (db new : Database) → AreFormed db → (rows : List Row)
      → FindsFirst list.shape.table listing rows db new → (found : Option ℤ) → BeginsWith rows found
      → IsGreatest number (filter keeps (list.rows (tables_of db))) found
  answered db new formed rows finds found head =
      let f = known.is.formed db formed in
      let p = f.placed in
      let there = stored_rows list.shape db in
      let same : filter newest.pass (db.trees (spelled list.shape.table p.spelling).tree)
      ≡ filter newest.pass there = ap (filter newest.pass)
      (sym (rows_placed list.shape known.is.laws db p.at p.spelling p.has)) in
      let shows = subst (λ k. ShowsFirst (λ r. column r newest.place ∷ []) newest.shown (descending ∷ []) k
      rows) same (finds.first p.at p.spelling p.has) in
      let kept = arranged-filter list.shape.key list.shape.typed keeps newest.pass there (tested there f.stored) in
      subst (λ k. IsGreatest number k found) (kept ∙ ap (filter keeps) (sym (known.is.lists db)))
      (greatest_in list.shape number newest.shown newest.place newest.begins newest.keyed (filter newest.pass there)
      rows (All-filter (IsStored list.shape) newest.pass there f.stored) found head shows)

  -- inside a transaction
  pub tells_greatest : {Y : Type 0} (items : Y → List Row) (given : Row) → given ≡ params
      → (old new : State) (answer : Result Y Error) → (HasCleanDisk new
      → IfOk answer (λ y. Shown text given old new (items y)))
      → (HasCleanDisk new → IfErr answer (λ e. FailsToQuery text given old new e
      ⊎ IsTooLate text given old new e)) → (result : Result (Option ℤ) Fault)
      → AreSaid items BeginsWith answer result
      → Tells (λ t. IsGreatest number (filter keeps (list.rows t))) old new result
  tells_greatest items given same old new answer ok err result said =
      told (newest.asked unspelled) params items BeginsWith (λ t. IsGreatest number (filter keeps (list.rows t))) old
      new
      (λ formed rows shows. answered old.now new.now formed rows
      (asked_first newest.asked params newest.given listing newest.is old new rows shows)) answer result
      (subst (λ (p : Row). HasCleanDisk new → IfOk answer (λ y. Shown text p old new (items y))) same ok)
      (subst (λ (p : Row). HasCleanDisk new → IfErr answer
      (λ e. FailsToQuery text p old new e ⊎ IsTooLate text p old new e)) same err) said
