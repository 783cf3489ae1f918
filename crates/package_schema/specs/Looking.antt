-- What a look at a store that may be any database answers.
use Rattle.std.specs.Prelude.{◌≡◌, Result}
use Rattle.sqlite.specs.Effect.{Database}
use Rattle.sqlite.specs.State.{State}
use Rattle.store_sql.specs.Writing.{AreKeyed}
use Rattle.store_sql.specs.Transactions.{Looks}

-- The database is the same, and says this.
abbrev pub Sees : {X : Type 0} → (Database → X → Type 0) → X → Database → Database → Type 0
Sees Says x old new = (new ≡ old) × Says old x

-- The same where its tables are in the order of their rowids, as those of an adopted store are.
abbrev pub SaysOf : {X : Type 0} → (Database → X → Type 0) → X → Database → Database → Type 0
SaysOf Says x old new = (new ≡ old) × (AreKeyed old → Says old x)

-- The call answered this of any database. Whether it did or failed, the store is at rest and, where it is open, holds
-- what it held.
abbrev pub LooksAt : {X E : Type 0} → (Database → X → Type 0) → State → State → Result X E → Type 0
LooksAt Says old new result = Looks (SaysOf Says) old new result
