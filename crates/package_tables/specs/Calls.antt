-- What a call on a package's tables does.
use Rattle.std.specs.Prelude.{◌≡◌, ◌⊎◌, ℤ, ◌≤ℤ◌, Bool, true, false, List, [], ◌∷◌, map}
use Rattle.std.specs.Prelude.{All, Option, Result, Ok, Err, IsTrue, MatchOption, Contains, IsPermutation, IsSorted}
use Rattle.std.specs.Prelude.{filter}
use Rattle.std.specs.declared.cmp.Ordering.{Ordering}
use Rattle.std.specs.List.{list_any, AllByRecursion}
use Rattle.sqlite.specs.Effect.{Database}
use Rattle.sqlite.specs.State.{State, HasCleanDisk, Shows, IsUnchanged, IsRolledBack}
use Rattle.store_sql.specs.Transactions.{Looks}
use Rattle.package_tables.specs.Package.{Tables, tables_of, AreFormed}

-- ---- inside a transaction: an error changed nothing, or the transaction is rolled back

-- the call changed the tables so, and committed nothing
abbrev pub MakesInside : {X E : Type 0} → (Tables → Tables → Type 0) → State → State → Result X E → Type 0
MakesInside Change old new (Ok x) = Shows old new new.now old.committed true
    × (AreFormed old.now → AreFormed new.now × Change (tables_of old.now) (tables_of new.now))
MakesInside Change old new (Err e) = IsUnchanged old new ⊎ IsRolledBack old new

abbrev pub Makes : {X E : Type 0} → (Tables → Tables → Type 0) → State → State → Result X E → Type 0
Makes Change old new result = HasCleanDisk new → IsTrue old.in_transaction → MakesInside Change old new result

-- the call answered this of the tables, and changed nothing
abbrev pub TellsInside : {X E : Type 0} → (Tables → X → Type 0) → State → State → Result X E → Type 0
TellsInside Answer old new (Ok x) = IsUnchanged old new × (AreFormed old.now → Answer (tables_of old.now) x)
TellsInside Answer old new (Err e) = IsUnchanged old new ⊎ IsRolledBack old new

abbrev pub Tells : {X E : Type 0} → (Tables → X → Type 0) → State → State → Result X E → Type 0
Tells Answer old new result = HasCleanDisk new → TellsInside Answer old new result

-- ---- at rest

-- The database is the same, and this is the answer that it gives.
abbrev pub Answers : {X : Type 0} → (Tables → X → Type 0) → X → Database → Database → Type 0
Answers Answer x old new = (new ≡ old) × (AreFormed old → Answer (tables_of old) x)

-- The call answered this of the tables. Whether it did or failed, the store is at rest and, where it is open, holds
-- what it held.
abbrev pub LooksUp : {X E : Type 0} → (Tables → X → Type 0) → State → State → Result X E → Type 0
LooksUp Answer old new result = Looks (Answers Answer) old new result

-- ---- answers

-- one of the rows that pass, if any does
abbrev pub IsOneOf : {R : Type 0} → (R → Bool) → List R → Option R → Type 0
IsOneOf keeps rows found = MatchOption found (list_any keeps rows ≡ false)
    (λ x. Contains rows x × (keeps x ≡ true))

-- the rows that pass, each as often as it is there, in any order
abbrev pub AreThose : {R : Type 0} → (R → Bool) → List R → List R → Type 0
AreThose keeps rows found = IsPermutation (filter keeps rows) found

-- the numbers of those, likewise
abbrev pub AreNumbersOf : {R : Type 0} → (R → ℤ) → (R → Bool) → List R → List ℤ → Type 0
AreNumbersOf number keeps rows found = IsPermutation (map number (filter keeps rows)) found

-- all the rows, each as often as it is there, in this order
abbrev pub AreAll : {R : Type 0} → (R → R → Ordering) → List R → List R → Type 0
AreAll cmp rows found = IsPermutation rows found × IsSorted cmp found

-- each number is at most those after it
abbrev pub Rises : {R : Type 0} → (R → ℤ) → List R → Type 0
Rises number [] = Unit {0}
Rises number (x ∷ xs) = AllByRecursion (λ y. number x ≤ℤ number y) xs × Rises number xs

-- the greatest number of the rows, if there are any
abbrev pub IsGreatest : {R : Type 0} → (R → ℤ) → List R → Option ℤ → Type 0
IsGreatest number rows found = MatchOption found (rows ≡ [])
    (λ n. Contains (map number rows) n × All (λ x. number x ≤ℤ n) rows)

-- a row of the least number, if there is any row
abbrev pub IsLeast : {R : Type 0} → (R → ℤ) → List R → Option R → Type 0
IsLeast number rows found = MatchOption found (rows ≡ []) (λ x. Contains rows x
    × AllByRecursion (λ y. number x ≤ℤ number y) rows)

-- ---- among other calls

-- A database of these tables gets the changed ones.
abbrev pub OnTables : (Tables → Tables → Type 0) → Database → Database → Type 0
OnTables Change old new = AreFormed old → AreFormed new × Change (tables_of old) (tables_of new)
