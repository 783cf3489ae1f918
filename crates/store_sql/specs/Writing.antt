-- What a write makes of a database.
use Rattle.std.specs.Prelude.{◌≡◌, ◌⊎◌, ℕ, Bool, true, false, not, filter, map, if◌then◌else◌}
use Rattle.std.specs.Prelude.{List, [], ◌∷◌, Result, Ok, Err}
use Rattle.std.specs.List.{AllByRecursion}
use Rattle.sqlite.specs.Order.{Row}
use Rattle.sqlite.specs.Table.{Table}
use Rattle.sqlite.specs.Tree.{put_row, IsTable}
use Rattle.sqlite.specs.Edit.{is_taken, have_rowids}
use Rattle.sqlite.specs.Effect.{Database, IsDatabase}
use Rattle.sqlite.specs.declared.error.Error.{Error}
use Rattle.sqlite.specs.State.{State, Shows, IsUnchanged, IsRolledBack}
use Rattle.store_sql.specs.Spelling.{Spelling, spelled}
use Rattle.store_sql.specs.Kinds.{has_kinds}
use Rattle.store_sql.specs.Known.{HasTable, IsQuiet, sequence_name, is_other}

-- The schema is the same, and so is each known table but this one and that of the counts; the trees list the schema
-- and obey it.
pub record Spares (t : Table) (old new : Database) : Type 0 where
  pub schema : new.schema ≡ old.schema
  pub others : (at : ℕ) (u : Table) → HasTable old.schema at u → is_other u.name t.name ≡ true
      → is_other u.name sequence_name ≡ true → new.trees u.tree ≡ old.trees u.tree
  pub sound : IsDatabase new

-- a row that was free is put into the table
pub record Inserted (t : Table) (row : Row) (old new : Database) : Type 0 where
  pub free : is_taken (old.trees t.tree) row ≡ false
  pub rows : new.trees t.tree ≡ put_row row (old.trees t.tree)
  pub spares : Spares t old new

-- The row may depend on those that are there, where the table numbers its rows.
abbrev pub Inserts : (ℕ → Table) → (List Row → Row) → Database → Database → Type 0
Inserts table row old new = (at : ℕ) (spelling : Spelling) → HasTable old.schema at (spelled table spelling)
    → IsQuiet old.schema → Inserted (spelled table spelling) (row (old.trees (spelled table spelling).tree)) old
    new

-- the rowids are integers, and rise
pub record IsKeyed (rows : List Row) : Type 0 where
  pub ints : have_rowids rows ≡ true
  pub rises : IsTable rows

-- of each table that the schema has
abbrev pub AreKeyed : Database → Type 0
AreKeyed db = AllByRecursion (λ t. IsKeyed (db.trees t.tree)) db.schema.tables

-- the rows that pass the test are taken out of the table
pub record Deleted (t : Table) (goes : Row → Bool) (old new : Database) : Type 0 where
  pub rows : IsKeyed (old.trees t.tree) → new.trees t.tree ≡ filter (λ r. not (goes r)) (old.trees t.tree)
  pub spares : Spares t old new

abbrev pub Deletes : (ℕ → Table) → (Row → Bool) → Database → Database → Type 0
Deletes table goes old new = (at : ℕ) (spelling : Spelling) → HasTable old.schema at (spelled table spelling)
    → IsQuiet old.schema → Deleted (spelled table spelling) goes old new

-- The rows that pass the test are changed, each in its place. What they change to has to be of the columns' kinds.
pub record Updated (t : Table) (hits : Row → Bool) (change : Row → Row) (old new : Database) : Type 0 where
  pub rows : IsKeyed (old.trees t.tree) → AllByRecursion (λ r. has_kinds t (change r) ≡ true) (old.trees t.tree)
      → new.trees t.tree ≡ map (λ r. if hits r then change r else r) (old.trees t.tree)
  pub spares : Spares t old new

abbrev pub Updates : (ℕ → Table) → (Row → Bool) → (Row → Row) → Database → Database → Type 0
Updates table hits change old new = (at : ℕ) (spelling : Spelling)
    → HasTable old.schema at (spelled table spelling) → IsQuiet old.schema
    → Updated (spelled table spelling) hits change old new

-- A call inside a transaction made a change, or else nothing, or it ended the transaction.
abbrev pub WritesInside : {X : Type 0} → (Database → Database → Type 0) → State → State → Result X Error
    → Type 0
WritesInside Changes old new (Ok x) = Shows old new new.now old.committed true × Changes old.now new.now
WritesInside Changes old new (Err e) = IsUnchanged old new ⊎ IsRolledBack old new

-- one change after the other
abbrev pub Chained : (Database → Database → Type 0) → (Database → Database → Type 0) → Database
    → Database → Type 0
Chained First Next old new = (mid : Database) × First old mid × Next mid new

-- one change for each item, in their order
abbrev pub EachChained : {X : Type 0} → (X → Database → Database → Type 0) → List X → Database
    → Database → Type 0
EachChained Change [] old new = new ≡ old
EachChained Change (x ∷ xs) old new = (mid : Database) × Change x old mid × EachChained Change xs mid new
