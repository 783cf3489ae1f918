-- From the clauses of `query_all` to what a look-up answers of the tables, inside a transaction and at rest.
use Rattle.std.proofs.Common.{◌≡◌, ◌⊎◌, inl, inr, Ordering, ℕ, ℤ, List, [], map, Bool, true, false}
use Rattle.std.proofs.Common.{Option, Some, Result, Ok, Err, IsTrue, sym, subst}
use Rattle.std.specs.Prelude.{slice_get, filter, MatchOption, IfOk, IfErr, IsOkAnd, IsPermutation}
use Rattle.std.specs.Cmp.{IsTotalOrder}
use Rattle.sqlite.specs.Query.{key_cmp}
use Rattle.sqlite.specs.Order.{Row}
use Rattle.sqlite.specs.Term.{Term}
use Rattle.sqlite.specs.Table.{Table}
use Rattle.sqlite.specs.Store.{Ghosts}
use Rattle.sqlite.specs.Effect.{Database}
use Rattle.sqlite.specs.Held.{Held, state}
use Rattle.sqlite.specs.declared.error.Error.{Error}
use Rattle.sqlite.specs.declared.types.Value.{Value}
use Rattle.sqlite.specs.State.{State, HasCleanDisk, IsUnchanged, Survives, Shown, FailsToQuery, IsTooLate}
use Rattle.sqlite.specs.State.{CommitsShowing}
use Rattle.sqlite_value.specs.declared.keys.Key.{Key}
use Rattle.store_sql.specs.Known.{HasTable}
use Rattle.store_sql.specs.Reading.{Test, Listing, IsListing, Finds}
use Rattle.store_sql.specs.Transactions.{Rests}
use Rattle.store_sql.specs.Spelling.{Spelling, spelled, unspelled}
use Rattle.store_sql.proofs.Where.{are_given}
use Rattle.store_sql.proofs.Resolve.{all_rows}
use Rattle.store_sql.proofs.Select.{IsSelect, IsPlannedSelect, IsAsked, asked_all, all_listed, shown_terms}
use Rattle.store_sql.proofs.Select.{listing_of, listing_showing}
use Rattle.store_sql.proofs.Answering.{shown_unchanged, failed_unchanged, asked_looks}
use Rattle.store_sql.proofs.Transactions.{Shuts, Settles}
use Rattle.sqlite_trees.proofs.ListLemmas.{all_of, filter_all}
use Rattle.package_tables.specs.Shape.{Shape}
use Rattle.package_tables.specs.Package.{Tables, tables_of, AreFormed}
use Rattle.package_tables.specs.Listed.{Listed}
use Rattle.package_tables.specs.Calls.{TellsInside, Tells, Answers, LooksUp, IsOneOf, AreThose, AreAll, Rises}
use Rattle.package_tables.specs.declared.fault.Fault.{Fault}
use Rattle.package_tables.proofs.Lists.{IsListed}
use Rattle.package_tables.proofs.Reading.{those, one_of}
use Rattle.package_tables.proofs.Ranking.{in_order}

pub filter_every : {R : Type 0} {keeps : R → Bool} → ((x : R) → keeps x ≡ true) → (xs : List R)
    → filter keeps xs ≡ xs
filter_every {R} {keeps} every xs = filter_all keeps xs (all_of (λ x. keeps x ≡ true) every xs)

-- the table is one of the fifteen, and a SELECT * shows its values so
pub record IsKnown {R : Type 0} (list : Listed R) (shown : R → Row) : Type 0 where
  pub is : IsListed list
  pub back : Row → R
  pub returns : (x : R) → back (shown x) ≡ x

-- with these parameters the text is a SELECT * of the rows whose values pass
pub record IsLookUp {R : Type 0} (shape : Shape R) (shown : R → Row) (text : List ℕ) (params : Row)
    (keeps : R → Bool) : Type 0 where
  pub test : Test
  pub by : List (Term × Key)
  pub selects : (spelling : Spelling) → IsSelect text (spelled shape.table spelling) test by
  pub planned : (spelling : Spelling) → IsPlannedSelect (spelled shape.table spelling) test by
  pub given : are_given test params ≡ true
  pub listing : Listing
  pub is : (spelling : Spelling) → listing_of (spelled shape.table spelling) test by params ≡ listing
  pub shows : (v : Value) (x : R) → listing.shown (shape.stored v x) ≡ shown x
  pub passing : (v : Value) (x : R) → listing.keeps (shape.stored v x) ≡ keeps x

-- with these parameters the text is a query of the table, and this is its listing
pub record IsQuery (table : ℕ → Table) (text : List ℕ) (params : Row) (listing : Listing) : Type 0 where
  pub test : Test
  pub project : Spelling → List Term
  pub by : List (Term × Key)
  pub asked : (spelling : Spelling) → IsAsked text (spelled table spelling) test (project spelling) by all_rows
  pub given : are_given test params ≡ true
  pub is : (spelling : Spelling) → listing_showing (project spelling) (spelled table spelling) test by params
      ≡ listing

-- the rows come by these keys, which order the values so
pub record IsRanked {R : Type 0} {shape : Shape R} {shown : R → Row} {text : List ℕ} {params : Row}
    {keeps : R → Bool} (read : IsLookUp shape shown text params keeps) (cmp : R → R → Ordering) : Type 0 where
  pub keys : R → Row
  pub keyed : (v : Value) (x : R) → read.listing.key (shape.stored v x) ≡ keys x
  pub total : IsTotalOrder cmp
  pub alike : (x y : R) → key_cmp 0 read.listing.by (keys x) (keys y) ≡ cmp x y

-- the rows of an answer, as a function reads them, say this
abbrev pub AreSaid : {X Y F : Type 0} → (Y → List Row) → (List Row → X → Type 0) → Result Y Error
    → Result X F → Type 0
AreSaid items Says answer result = IfOk result (λ x. IsOkAnd answer (λ rows. Says (items rows) x))

abbrev pub HasHead : {R : Type 0} → (R → Row) → List Row → Option R → Type 0
HasHead shown rows first = MatchOption first (rows ≡ []) (λ x. slice_get rows 0 ≡ Some (shown x))

abbrev pub AreShown : {R : Type 0} → (R → Row) → List Row → List R → Type 0
AreShown shown rows xs = rows ≡ map shown xs

-- the rows are this listing of a table, wherever it is
abbrev pub AreRows : (ℕ → Table) → Listing → Database → List Row → Type 0
AreRows table l db rows = (at : ℕ) (spelling : Spelling) → HasTable db.schema at (spelled table spelling)
    → IsListing l.key l.shown l.by (filter l.keeps (db.trees (spelled table spelling).tree)) rows

-- what the rows of a query say of the tables is an answer at rest; the parameters are those that were bound
module _ {table : ℕ → Table} {text : List ℕ} {params : Row} {listing : Listing}
    (query : IsQuery table text params listing) {X Y : Type 0} (items : Y → List Row)
    (Says : List Row → X → Type 0) (Answer : Tables → X → Type 0)
    (means : (db : Database) → AreFormed db → (rows : List Row) → AreRows table listing db rows → (x : X)
    → Says rows x → Answer (tables_of db) x)
    (bound : Row) (same : bound ≡ params) {S : Type 0} (g : Ghosts S) (shuts : Shuts g) (settles : Settles g)
    (old new : Held S) (rests : Rests (state g old)) (answer : Result Y Error)
    (ok : HasCleanDisk (state g new) → IfOk answer (λ y. Shown text bound (state g old) (state g new) (items y)))
    (err : HasCleanDisk (state g new) → IfErr answer (FailsToQuery text bound (state g old) (state g new)))
    (mode : old.in_transaction ≡ false → new.in_transaction ≡ false)
    (survives : Survives (state g old) (state g new) (CommitsShowing text bound (state g old)))
    (result : Result X Fault) where
  pub query_looks : AreSaid items Says answer result → LooksUp Answer (state g old) (state g new) result
  query_looks said =
      let found = asked_looks query.asked params query.given listing query.is g shuts settles items old new rests answer
      (subst (λ p. HasCleanDisk (state g new) → IfOk answer (λ y. Shown text p (state g old) (state g new)
      (items y))) same ok) (subst (λ p. HasCleanDisk (state g new)
      → IfErr answer (FailsToQuery text p (state g old) (state g new))) same err) mode
      (subst (λ p. Survives (state g old) (state g new) (CommitsShowing text p (state g old))) same survives) in
      record {
        rests = found.rests;
        done = λ clean. at answer result (found.done clean) said;
        was_open = found.was_open;
        holds = found.holds;
        survives = found.survives;
      }
    where
      at : (answer : Result Y Error) (result : Result X Fault)
          → IfOk answer (λ y. IsTrue (state g new).is_open × Finds table listing (items y) (state g old).now
          (state g new).now) → AreSaid items Says answer result
          → IfOk result (λ x. IsTrue (state g new).is_open × Answers Answer x (state g old).now (state g new).now)
      at (Ok y) (Ok x) found said = (
        found.0,
        (
          found.1.same,
          λ formed. means (state g old).now formed (items y)
              found.1.listed x said,
        ),
      )
      at (Err e) (Ok x) found said = absurd said
      at answer (Err f) found said = tt

-- what the rows of a text say of the tables is an answer inside a transaction
module _ {text : List ℕ} {t : Table} {test : Test} {project : List Term} {by : List (Term × Key)}
    {cut : Term × Term} (asked : IsAsked text t test project by cut) {X Y : Type 0} (params : Row)
    (items : Y → List Row) (Says : List Row → X → Type 0) (Answer : Tables → X → Type 0)
    (old new : State) (means : AreFormed old.now → (rows : List Row) → Shown text params old new rows → (x : X)
    → Says rows x → Answer (tables_of old.now) x) where
  pub told : (answer : Result Y Error) (result : Result X Fault)
      → (HasCleanDisk new → IfOk answer (λ y. Shown text params old new (items y)))
      → (HasCleanDisk new → IfErr answer (λ e. FailsToQuery text params old new e
      ⊎ IsTooLate text params old new e))
      → AreSaid items Says answer result → Tells Answer old new result
  told answer result ok err said clean = at answer result (ok clean) (err clean) said
    where
      bare : (rows : List Row) → Shown text params old new rows → IsUnchanged old new
      bare rows shows = shown_unchanged text asked.parse asked.asks asked.parsed asked.statement params old new rows
          shows

      at : (answer : Result Y Error) (result : Result X Fault)
          → IfOk answer (λ y. Shown text params old new (items y))
          → IfErr answer (λ e. FailsToQuery text params old new e ⊎ IsTooLate text params old new e)
          → AreSaid items Says answer result
          → TellsInside Answer old new result
      at (Ok y) (Ok x) shows fails said = (bare (items y) shows, λ formed. means formed (items y) shows x said)
      at (Ok y) (Err f) shows fails said = inl (bare (items y) shows)
      at (Err e) (Ok x) shows fails said = absurd said
      at (Err e) (Err f) shows (inl why) said = failed_unchanged text asked.parse asked.asks asked.parsed
          asked.statement params old new e why
      at (Err e) (Err f) shows (inr late) said = inl late.5

module _ {R : Type 0} {list : Listed R} {shown : R → Row} (known : IsKnown list shown) {text : List ℕ}
    {params : Row} {keeps : R → Bool} (read : IsLookUp list.shape shown text params keeps) where
  query : IsQuery list.shape.table text params read.listing
  query = record {
    test = read.test;
    project = λ spelling. shown_terms (spelled list.shape.table spelling);
    by = read.by;
    asked = λ spelling. asked_all (read.selects spelling) (read.planned spelling);
    given = read.given;
    is = read.is;
  }

  abbrev AreListed : Database → List Row → Type 0
  AreListed db rows = AreRows list.shape.table read.listing db rows

  -- what the rows say answers a question on the tables
  abbrev Means : {X : Type 0} → (List Row → X → Type 0) → (Tables → X → Type 0) → Type 0
  Means {X} Says Answer = (db : Database) → AreFormed db → (rows : List Row) → AreListed db rows → (x : X)
      → Says rows x → Answer (tables_of db) x

  first_means : Means (HasHead shown) (λ t. IsOneOf keeps (list.rows t))
  first_means db formed rows listing first head =
      subst (λ k. IsOneOf keeps k first) (sym (known.is.lists db))
      (one_of list.shape known.is.laws shown known.back known.returns read.listing keeps read.shows read.passing
      db (known.is.formed db formed) rows listing first head)

  all_mean : Means (AreShown shown) (λ t. AreThose keeps (list.rows t))
  all_mean db formed rows listing xs are =
      subst (λ k. AreThose keeps k xs) (sym (known.is.lists db))
      (those list.shape known.is.laws shown known.back known.returns read.listing keeps read.shows read.passing db
      (known.is.formed db formed) rows listing xs are)

  -- every row, in order
  module _ (every : (x : R) → keeps x ≡ true) {cmp : R → R → Ordering} (ranked : IsRanked read cmp) where
    in_order_mean : Means (AreShown shown) (λ t. AreAll cmp (list.rows t))
    in_order_mean db formed rows listing xs are = (
      subst (λ k. IsPermutation k xs) (filter_every every (list.rows (tables_of db)))
          (all_mean db formed rows listing xs are),
      in_order list.shape known.is.laws shown known.back known.returns read.listing read.shows ranked.keys
          ranked.keyed cmp ranked.total ranked.alike db (known.is.formed db formed) rows listing xs are,
    )

  -- all rows that pass, in the order of a number
  module _ (number : R → ℤ) (rank : (there rows : List Row) → IsListing read.listing.key read.listing.shown
      read.listing.by there rows → (xs : List R) → AreShown shown rows xs → Rises number xs) where
    ranked_mean : Means (AreShown shown) (λ t xs. AreThose keeps (list.rows t) xs × Rises number xs)
    ranked_mean db formed rows listing xs are = let p = (known.is.formed db formed).placed in (
      all_mean db formed rows listing xs are,
      rank (filter read.listing.keeps
          (db.trees (spelled list.shape.table p.spelling).tree)) rows (listing p.at p.spelling p.has) xs are,
    )

  module _ {X Y : Type 0} (items : Y → List Row) (Says : List Row → X → Type 0)
      (Answer : Tables → X → Type 0) (means : Means Says Answer) where
    -- inside a transaction
    tells : (old new : State) (answer : Result Y Error) (result : Result X Fault)
        → (HasCleanDisk new → IfOk answer (λ y. Shown text params old new (items y)))
        → (HasCleanDisk new → IfErr answer (λ e. FailsToQuery text params old new e
        ⊎ IsTooLate text params old new e)) → AreSaid items Says answer result → Tells Answer old new result
    tells old new = told (query.asked unspelled) params items Says Answer old new
        (λ formed rows shows. means old.now formed rows (λ at spelling has.
        (all_listed list.shape.table query.asked params query.given read.listing query.is old new rows shows at
        spelling has).0))

  -- ---- one row, or all; the parameters as they are bound

  module _ {Y : Type 0} (items : Y → List Row) (given : Row) (same : given ≡ params) where
    module _ (old new : State) (answer : Result Y Error) (ok : HasCleanDisk new
        → IfOk answer (λ y. Shown text given old new (items y)))
        (err : HasCleanDisk new → IfErr answer (λ e. FailsToQuery text given old new e
        ⊎ IsTooLate text given old new e)) where
      shows : HasCleanDisk new → IfOk answer (λ y. Shown text params old new (items y))
      shows = subst (λ p. HasCleanDisk new → IfOk answer (λ y. Shown text p old new (items y))) same ok

      fails : HasCleanDisk new → IfErr answer (λ e. FailsToQuery text params old new e
          ⊎ IsTooLate text params old new e)
      fails = subst (λ p. HasCleanDisk new → IfErr answer (λ e. FailsToQuery text p old new e
          ⊎ IsTooLate text p old new e)) same err

      pub tells_one : (result : Result (Option R) Fault) → AreSaid items (HasHead shown) answer result
          → Tells (λ t. IsOneOf keeps (list.rows t)) old new result
      tells_one result said = tells items (HasHead shown) (λ t. IsOneOf keeps (list.rows t)) first_means old new
          answer result shows fails said

    module _ {S : Type 0} (g : Ghosts S) (shuts : Shuts g) (settles : Settles g) (old new : Held S)
        (rests : Rests (state g old)) (answer : Result Y Error)
        (ok : HasCleanDisk (state g new) → IfOk answer (λ y. Shown text given (state g old) (state g new)
        (items y)))
        (err : HasCleanDisk (state g new) → IfErr answer (FailsToQuery text given (state g old) (state g new)))
        (mode : old.in_transaction ≡ false → new.in_transaction ≡ false)
        (survives : Survives (state g old) (state g new) (CommitsShowing text given (state g old))) where
      answers : {X : Type 0} (Says : List Row → X → Type 0) (Answer : Tables → X → Type 0)
          (means : Means Says Answer) (result : Result X Fault) → AreSaid items Says answer result
          → LooksUp Answer (state g old) (state g new) result
      answers Says Answer means result said = query_looks query items Says Answer means given same g shuts settles old
          new rests answer ok err mode survives result said

      pub looks_one : (result : Result (Option R) Fault) → AreSaid items (HasHead shown) answer result
          → LooksUp (λ t. IsOneOf keeps (list.rows t)) (state g old) (state g new) result
      looks_one result said = answers (HasHead shown) (λ t. IsOneOf keeps (list.rows t)) first_means result said

      -- every row, in order
      pub looks_in_order : {X : Type 0} (every : (x : R) → keeps x ≡ true) {cmp : R → R → Ordering}
          (ranked : IsRanked read cmp) (of : X → List R) (result : Result X Fault)
          → AreSaid items (λ rows x. AreShown shown rows (of x)) answer result
          → LooksUp (λ t x. AreAll cmp (list.rows t) (of x)) (state g old) (state g new) result
      looks_in_order every {cmp} ranked of result said =
          answers (λ rows x. AreShown shown rows (of x)) (λ t x. AreAll cmp (list.rows t) (of x))
          (λ db formed rows listing x are. in_order_mean every ranked db formed rows listing (of x) are) result
          said

      pub looks_all : {X : Type 0} (of : X → List R) (result : Result X Fault)
          → AreSaid items (λ rows x. AreShown shown rows (of x)) answer result
          → LooksUp (λ t x. AreThose keeps (list.rows t) (of x)) (state g old) (state g new) result
      looks_all of result said = answers (λ rows x. AreShown shown rows (of x))
          (λ t x. AreThose keeps (list.rows t) (of x)) (λ db formed rows listing x are. all_mean db formed rows
          listing (of x) are) result said

      -- all rows that pass, in the order of a number
      pub looks_ranked : {X : Type 0} (of : X → List R) (number : R → ℤ)
          → ((there rows : List Row) → IsListing read.listing.key read.listing.shown read.listing.by there rows
          → (xs : List R) → AreShown shown rows xs → Rises number xs)
          → (result : Result X Fault) → AreSaid items (λ rows x. AreShown shown rows (of x)) answer result
          → LooksUp (λ t x. AreThose keeps (list.rows t) (of x) × Rises number (of x)) (state g old)
          (state g new) result
      looks_ranked of number rank result said =
          answers (λ rows x. AreShown shown rows (of x)) (λ t x. AreThose keeps (list.rows t) (of x)
          × Rises number (of x)) (λ db formed rows listing x are. ranked_mean number rank db formed rows listing
          (of x) are) result said
