-- What a store holds in which a package was to be made and was not. Profile.
use Rattle.std.specs.Prelude.{◌≡◌, ◌⊎◌, ℕ, List, true, IsTrue}
use Rattle.sqlite.specs.Effect.{Database}
use Rattle.sqlite.specs.State.{State, HasCleanDisk}
use Rattle.sqlite.specs.Tree.{Trees}
use Rattle.sheet_types.specs.Texts.{is_moment}
use Rattle.sheet_types.specs.World.{Package}
use Rattle.sheet_types.specs.declared.frame.Frame.{Frame}
use Rattle.store_sql.specs.Blank.{IsBlank, no_schema}
use Rattle.store_sql.specs.Transactions.{Rests, Holds}
use Rattle.identity_register.specs.Reads.{Reads}

-- It is at rest. While it is open it holds what it showed before: nothing was committed. A commit that failed shuts it:
-- then a crash leaves of it what it left before, or the new package, whole.
pub record IsUnmade (f : Frame) (p : Package) (at : List ℕ) (old new : State) : Type 0 where
  pub rests : Rests new
  pub clean : HasCleanDisk new → HasCleanDisk old
  pub undone : IsTrue new.is_open → Holds new old.now
  pub left : HasCleanDisk new → IsBlank no_schema old.now → (trees : Trees) → new.may_leave trees
      → old.may_leave trees ⊎ (is_moment at ≡ true → (db : Database) × (trees ≡ db.trees) × Reads f p db)
