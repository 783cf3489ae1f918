-- What a call tells of the package that a store at rest reads as.
use Rattle.std.specs.Prelude.{Result, IfOk, IsTrue}
use Rattle.sqlite.specs.State.{State, HasCleanDisk}
use Rattle.store_sql.specs.Staying.{Stays}
use Rattle.sheet_types.specs.World.{Package}
use Rattle.sheet_types.specs.declared.frame.Frame.{Frame}
use Rattle.identity_register.specs.Reads.{Reads}

-- The store was only read, if at all, and the answer is true of the package that it read as.
-- Unlike `Looks`, this does not say that the store was open: where the answer needs no look-up, none is made, and it
-- is true of every package if the store was shut.
pub record Judges {X E : Type 0} (Answer : Frame → Package → X → Type 0) (old new : State)
    (r : Result X E) : Type 0 where
  pub stays : Stays old new
  pub stays_open : HasCleanDisk new → IfOk r (λ x. IsTrue old.is_open → IsTrue new.is_open)
  pub told : HasCleanDisk new → IfOk r (λ x. (f : Frame) (p : Package) → (IsTrue old.is_open → Reads f p old.now)
      → Answer f p x)
