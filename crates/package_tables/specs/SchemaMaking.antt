-- Schemas that statements make one after the other, of a database without rows.
use Rattle.std.specs.Prelude.{◌≡◌, ◌⊎◌, ℕ, List, [], ◌∷◌, true, false, IsTrue}
use Rattle.sqlite.specs.Table.{Table}
use Rattle.sqlite.specs.Schema.{Schema}
use Rattle.sqlite_schema.specs.declared.schema.Index.{Index}
use Rattle.sqlite.specs.Effect.{Database, IsDatabase}
use Rattle.sqlite.specs.Change.{indexed}
use Rattle.sqlite.specs.State.{State, Shows, HasCause, store_error}
use Rattle.sqlite.specs.declared.error.Error.{Error}
use Rattle.sqlite_trees.specs.declared.error.StoreError.{StoreError}
use Rattle.sqlite_trees.specs.View.{Tells}
use Rattle.store_sql.specs.Known.{HasTable}
use Rattle.store_sql.specs.Blank.{MakesText, IsFree, IsBlank, grown}
use Rattle.store_sql.specs.Certain.{FitsGrown, FitsIndex}
use Rattle.store_sql.specs.Index.{MakesIndexText}

-- the text makes the second schema of the first: a table of a free name, or an index of a free name on a table that
-- is there; and nothing refuses it
abbrev pub Extends : List ℕ → Schema → Schema → Type 0
Extends text old new =
    ((t : Table) × MakesText text t × IsFree old t.name × FitsGrown old text t × (new ≡ grown old t))
    ⊎ ((at : ℕ) × (t : Table) × (i : Index) × MakesIndexText text t i × HasTable old at t × IsFree old i.name
    × FitsIndex old text t i × (new ≡ indexed old t i))

-- the same, for texts that run in turn
abbrev pub ExtendsBy : List (List ℕ) → Schema → Schema → Type 0
ExtendsBy [] old new = new ≡ old
ExtendsBy (text ∷ texts) old new = (mid : Schema) × Extends text old mid × ExtendsBy texts mid new

-- the text was run on a database, which had no rows and has none, and which obeys its schema
abbrev pub Made : List ℕ → Database → Database → Type 0
Made text old new = (first last : Schema) → Extends text first last → IsBlank first old → IsBlank last new
    × IsDatabase new

-- the same, for texts that ran in turn
abbrev pub MadeBy : List (List ℕ) → Database → Database → Type 0
MadeBy texts old new = (first last : Schema) → ExtendsBy texts first last → IsBlank first old → IsBlank last new
    × IsDatabase new

-- inside a transaction, a call made this change of what the connection sees, and committed nothing
pub record ChangedInside (Changes : Database → Database → Type 0) (old new : State) : Type 0 where
  pub shown : Shows old new new.now old.committed true
  pub changed : Changes old.now new.now

-- inside a transaction, a call failed: there was no memory, the disk failed, or the connection was shut; and the
-- transaction is rolled back
pub record FailsInside (old new : State) (e : Error) : Type 0 where
  pub cause : StoreError
  pub named : e ≡ store_error cause
  pub because : HasCause old new ⊥ cause
  pub told : Tells new.blamed cause
  pub ended : new.in_transaction ≡ false
  pub undone : IsTrue new.is_open → IsTrue old.is_open × (new.now ≡ old.committed)
      × (new.committed ≡ old.committed)

-- the text of a statement that makes a schema failed
abbrev pub FailsToMake : List ℕ → State → State → Error → Type 0
FailsToMake text old new e = (first last : Schema) → Extends text first last → IsBlank first old.now
    → FailsInside old new e

-- the same, for texts that ran in turn
abbrev pub FailsToMakeBy : List (List ℕ) → State → State → Error → Type 0
FailsToMakeBy texts old new e = (first last : Schema) → ExtendsBy texts first last → IsBlank first old.now
    → FailsInside old new e
