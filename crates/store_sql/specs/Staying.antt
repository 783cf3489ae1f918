-- A store that a call only reads: at rest before and after, and it holds what it held.
use Rattle.std.specs.Prelude.{IsTrue}
use Rattle.sqlite.specs.State.{State, Survives}
use Rattle.store_sql.specs.Transactions.{Rests, Holds}

-- An error may have shut it; then it says nothing, and a crash leaves what it left before.
pub record Stays (old new : State) : Type 0 where
  pub rests : Rests new
  pub was_open : IsTrue new.is_open → IsTrue old.is_open
  pub holds : IsTrue new.is_open → Holds new old.now
  pub survives : Survives old new (λ _. ⊥)
