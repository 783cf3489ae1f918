-- From `SELECT id FROM t ..` to the numbers of rows, or whether there is a row, at rest.
use Rattle.std.proofs.Common.{◌≡◌, ℕ, ℤ, List, [], ◌∷◌, map, length, Bool, true, false, cond, Less}
use Rattle.std.proofs.Common.{Result, refl, sym, ap, subst, ◌∙◌, arith}
use Rattle.std.specs.Prelude.{filter, not, ◌||◌, ◌==◌, ◌<ℤ◌, IfOk, IfErr, IsPermutation}
use Rattle.std.specs.List.{AllByRecursion, list_any}
use Rattle.std.specs.Ordering.{int_cmp}
use Rattle.std.proofs.lemmas.Cmp.{int_ranked}
use Rattle.std.proofs.lemmas.List.{length-map}
use Rattle.std.proofs.lemmas.List.Sorted.{length_permutation, IsPermutation-trans}
use Rattle.sqlite_value.specs.Order.{value_cmp}
use Rattle.sqlite_value.proofs.OrderLemmas.{value_cmp-Int}
use Rattle.sqlite_value.specs.declared.keys.Key.{Key}
use Rattle.sqlite_trees.specs.Tree.{IsAscending, IsTable}
use Rattle.sqlite.specs.Order.{Row, column}
use Rattle.sqlite.specs.Term.{Term}
use Rattle.sqlite.specs.Tree.{rowid}
use Rattle.sqlite.specs.Effect.{Database}
use Rattle.sqlite.specs.Store.{Ghosts}
use Rattle.sqlite.specs.Held.{Held, state}
use Rattle.sqlite.specs.State.{HasCleanDisk, Survives, Shown, FailsToQuery, CommitsShowing}
use Rattle.sqlite.specs.declared.error.Error.{Error}
use Rattle.sqlite.specs.declared.types.Value.{Value}
use Rattle.sqlite.specs.declared.types.Value.TheVariants.{Int}
use Rattle.sheet_types.specs.Ordered.{arranged}
use Rattle.store_sql.specs.Reading.{Test, Listing}
use Rattle.store_sql.specs.Transactions.{Rests}
use Rattle.store_sql.specs.Spelling.{Spelling, spelled}
use Rattle.store_sql.proofs.Where.{are_given}
use Rattle.store_sql.proofs.Resolve.{all_rows}
use Rattle.store_sql.proofs.Select.{IsAsked, listing_showing}
use Rattle.store_sql.proofs.Transactions.{Shuts, Settles}
use Rattle.package_tables.specs.Shape.{Shape, IsStored, stored_rows}
use Rattle.package_tables.specs.Shapes.{int_at, number_key}
use Rattle.package_tables.specs.Shown.{number_shown, InSize, AreInSize}
use Rattle.package_tables.specs.Package.{tables_of, AreFormed}
use Rattle.package_tables.specs.Listed.{Listed}
use Rattle.package_tables.specs.Calls.{LooksUp, AreNumbersOf}
use Rattle.package_tables.specs.declared.fault.Fault.{Fault}
use Rattle.package_tables.proofs.Lists.{IsListed}
use Rattle.package_tables.proofs.Looking.{IsQuery, AreRows, AreSaid, AreShown, query_looks, filter_every}
use Rattle.package_tables.proofs.Reading.{read_back, taken}
use Rattle.package_tables.proofs.Sizes.{same_sizes, arranged_rises, map_arranged}

-- with these parameters the text shows the number, and nothing else, of each row whose values pass
pub record IsNumbering {R : Type 0} (shape : Shape R) (number : R → ℤ) (text : List ℕ) (params : Row)
    (keeps : R → Bool) : Type 0 where
  pub test : Test
  pub project : Spelling → List Term
  pub by : List (Term × Key)
  pub asked : (spelling : Spelling) → IsAsked text (spelled shape.table spelling) test (project spelling) by all_rows
  pub given : are_given test params ≡ true
  pub listing : Listing
  pub is : (spelling : Spelling) → listing_showing (project spelling) (spelled shape.table spelling) test by params
      ≡ listing
  pub shows : (v : Value) (x : R) → listing.shown (shape.stored v x) ≡ number_shown (number x)
  pub passing : (v : Value) (x : R) → listing.keeps (shape.stored v x) ≡ keeps x

-- Says of rows that are said, in an answer that a function reads
abbrev HasAny : List Row → Bool → Type 0
HasAny rows any = any ≡ not (length rows == 0)

any_kept : {R : Type 0} (keeps : R → Bool) (xs : List R) → not (length (filter keeps xs) == 0) ≡ list_any keeps xs
any_kept keeps [] = refl
any_kept keeps (x ∷ xs) = one (keeps x) (any_kept keeps xs)
  where
    one : (b : Bool) → not (length (filter keeps xs) == 0) ≡ list_any keeps xs
        → not (length (cond b (x ∷ filter keeps xs) (filter keeps xs)) == 0) ≡ (b || list_any keeps xs)
    one true more = grind arith
    one false more = more

-- the numbers of a table's rows rise, as these are stored
module _ {R : Type 0} (shape : Shape R) (number : R → ℤ) (keyed : (v : Value) (x : R)
    → column (shape.stored v x) 0 ≡ Int (number x)) where
  abbrev number_in : Row → ℤ
  number_in r = number (shape.typed r)

  id_is : (r : Row) → IsStored shape r → rowid r ≡ Int (number_in r)
  id_is r stored = ap rowid (sym stored) ∙ keyed (rowid r) (shape.typed r)

  below : (r : Row) → IsStored shape r → (rows : List Row) → AllByRecursion (IsStored shape) rows
      → AllByRecursion (λ s. value_cmp (rowid r) (rowid s) ≡ Less) rows
      → AllByRecursion (λ n. number_in r <ℤ n) (map number (map shape.typed rows))
  below r mine [] stored up = tt
  below r mine (s ∷ rows) stored up =
      let compared : int_cmp (number_in r) (number_in s) ≡ Less =
      sym (value_cmp-Int (number_in r) (number_in s)) ∙ rw (← id_is r mine, ← id_is s stored.0) up.0 in
      (int_ranked (number_in r) (number_in s) Less (sym compared), below r mine rows stored.1 up.1)

  numbers_rise : (rows : List Row) → AllByRecursion (IsStored shape) rows → IsTable rows
      → IsAscending (λ a b. a <ℤ b) (map number (map shape.typed rows))
  numbers_rise [] stored up = tt
  numbers_rise (r ∷ rows) stored up = (below r stored.0 rows stored.1 up.0, numbers_rise rows stored.1 up.1)

module _ {R : Type 0} {list : Listed R} (is : IsListed list) {number : R → ℤ} {text : List ℕ} {params : Row}
    {keeps : R → Bool} (read : IsNumbering list.shape number text params keeps) where
  query : IsQuery list.shape.table text params read.listing
  query = record {
    test = read.test;
    project = read.project;
    by = read.by;
    asked = read.asked;
    given = read.given;
    is = read.is;
  }

  abbrev back : Row → ℤ
  back r = int_at r 0

  answered : (db : Database) → AreFormed db → (rows : List Row) → AreRows list.shape.table read.listing db rows
      → IsPermutation (map number (filter keeps (list.rows (tables_of db)))) (map back rows)
  answered db formed rows listing =
      subst (λ k. IsPermutation (map number (filter keeps k)) (map back rows)) (sym (is.lists db))
      (taken list.shape is.laws number (λ x. number_shown (number x)) back (λ x. refl) read.listing keeps read.shows
      read.passing db (is.formed db formed) rows listing)

  numbers_mean : (db : Database) → AreFormed db → (rows : List Row)
      → AreRows list.shape.table read.listing db rows → (xs : List ℤ) → AreShown number_shown rows xs
      → AreNumbersOf number keeps (list.rows (tables_of db)) xs
  numbers_mean db formed rows listing xs are =
      subst (IsPermutation (map number (filter keeps (list.rows (tables_of db)))))
      (ap (map back) are ∙ read_back number_shown back (λ n. refl) xs) (answered db formed rows listing)

  any_means : (db : Database) → AreFormed db → (rows : List Row) → AreRows list.shape.table read.listing db rows
      → (any : Bool) → HasAny rows any → any ≡ list_any keeps (list.rows (tables_of db))
  any_means db formed rows listing any has =
      let kept = filter keeps (list.rows (tables_of db)) in
      let long : length rows ≡ length kept = sym (length-map rows back)
      ∙ length_permutation _ _ (answered db formed rows listing) ∙ length-map kept number in
      has ∙ ap (λ n. not (n == 0)) long ∙ any_kept keeps (list.rows (tables_of db))

  module _ (every : (x : R) → keeps x ≡ true) (sized : list.shape.key ≡ (λ x. number_key (number x)))
      (keyed : (v : Value) (x : R) → column (list.shape.stored v x) 0 ≡ Int (number x)) where
    -- all numbers, in the order of the table
    ids_mean : (db : Database) → AreFormed db → (rows : List Row)
        → AreRows list.shape.table read.listing db rows → (xs : List ℤ) → AreInSize rows xs
        → xs ≡ map number (list.rows (tables_of db))
    ids_mean db formed rows listing xs (raw, are, moved, up) =
        let t = list.rows (tables_of db) in
        let f = is.formed db formed in
        let there = stored_rows list.shape db in
        let whole : IsPermutation (map number t) raw = subst (λ k. IsPermutation (map number k) raw)
        (filter_every every t) (numbers_mean db formed rows listing raw are) in
        let order : map number t ≡ arranged number_key (map number (map list.shape.typed there)) =
        ap (map number) (is.lists db) ∙ ap (λ k. map number (arranged k (map list.shape.typed there))) sized
        ∙ map_arranged number (map list.shape.typed there) in
        let rises = subst (IsAscending InSize) (sym order) (arranged_rises (map number (map list.shape.typed there))
        (numbers_rise list.shape number keyed there f.stored f.keyed.rises)) in
        sym (same_sizes (map number t) xs rises up (IsPermutation-trans (map number t) raw xs whole moved))

  module _ {Y : Type 0} (items : Y → List Row) (bound : Row) (same : bound ≡ params) {S : Type 0} (g : Ghosts S)
      (shuts : Shuts g) (settles : Settles g) (old new : Held S) (rests : Rests (state g old))
      (answer : Result Y Error)
      (ok : HasCleanDisk (state g new) → IfOk answer (λ y. Shown text bound (state g old) (state g new) (items y)))
      (err : HasCleanDisk (state g new) → IfErr answer (FailsToQuery text bound (state g old) (state g new)))
      (mode : old.in_transaction ≡ false → new.in_transaction ≡ false)
      (survives : Survives (state g old) (state g new) (CommitsShowing text bound (state g old))) where
    pub looks_any : (result : Result Bool Fault) → AreSaid items HasAny answer result
        → LooksUp (λ t any. any ≡ list_any keeps (list.rows t)) (state g old) (state g new) result
    looks_any result said = query_looks query items HasAny (λ t any. any ≡ list_any keeps (list.rows t)) any_means
        bound same g shuts settles old new rests answer ok err mode survives result said

    pub looks_numbers : {X : Type 0} (of : X → List ℤ) (result : Result X Fault)
        → AreSaid items (λ rows x. AreShown number_shown rows (of x)) answer result
        → LooksUp (λ t x. AreNumbersOf number keeps (list.rows t) (of x)) (state g old) (state g new) result
    looks_numbers of result said =
        query_looks query items (λ rows x. AreShown number_shown rows (of x))
        (λ t x. AreNumbersOf number keeps (list.rows t) (of x))
        (λ db formed rows listing x are. numbers_mean db formed rows listing (of x) are)
        bound same g shuts settles old new rests answer ok err mode survives result said

    pub looks_ids : {X : Type 0} (every : (x : R) → keeps x ≡ true)
        (sized : list.shape.key ≡ (λ x. number_key (number x)))
        (keyed : (v : Value) (x : R) → column (list.shape.stored v x) 0 ≡ Int (number x)) (of : X → List ℤ)
        (result : Result X Fault)
        → AreSaid items (λ rows x. AreInSize rows (of x)) answer result
        → LooksUp (λ t x. of x ≡ map number (list.rows t)) (state g old) (state g new) result
    looks_ids every sized keyed of result said =
        query_looks query items (λ rows x. AreInSize rows (of x)) (λ t x. of x ≡ map number (list.rows t))
        (λ db formed rows listing x are. ids_mean every sized keyed db formed rows listing (of x) are)
        bound same g shuts settles old new rests answer ok err mode survives result said
