-- What a shelf is given back, and what a crash leaves of a store in which a child was to be made. Profile.
use Rattle.std.specs.Prelude.{◌≡◌, ◌≢◌, ◌⊎◌, ℕ, List, Result, Ok, Err}
use Rattle.sqlite.specs.Held.{Held, state}
use Rattle.sqlite.specs.State.{HasCleanDisk}
use Rattle.sqlite.specs.Store.{Ghosts}
use Rattle.sqlite.specs.Tree.{Trees}
use Rattle.sqlite_trees.specs.View.{IsQuiet}
use Rattle.sheet_types.specs.World.{World}
use Rattle.sheet_types.specs.declared.frame.Frame.{Frame}
use Rattle.sheet_types.specs.declared.receipt.Receipt.{Receipt}
use Rattle.store_sql.specs.Blank.{IsBlank, no_schema}
use Rattle.package_tables.specs.declared.fault.Fault.TheVariants as fault
use Rattle.register_lending.specs.declared.turn_fault.TurnFault.{TurnFault}
use Rattle.register_lending.specs.declared.turn_fault.TurnFault.TheVariants.{Before}
use Rattle.world_changes.specs.Leaving.{IsChildBeside}
use Rattle.world_loans.specs.Loans.{IsLent}
use Rattle.world_loans.specs.declared.loans.Lending.{Lending}
use Rattle.world_loans.specs.declared.loans.ServeFault.{ServeFault}
use Rattle.world_loans.specs.declared.loans.ServeFault.TheVariants.{Unshelved, Turn}
use Rattle.world_members.specs.Members.{AllClean, AllOpen, AreMembers}
use Rattle.world_members.specs.declared.members.Member.{Member}

-- the shelf had no store
abbrev pub IsUnshelved : ServeFault → Type 0
IsUnshelved (Unshelved why) = Unit {0}
IsUnshelved (Turn why) = ⊥

module _ {S : Type 0} (g : Ghosts S) where
  -- a crash may have left this of a store in which nothing stood, as a shelf gives one for a new package
  abbrev pub WasBlank : Trees → Type 0
  WasBlank trees = (blank : Held S) × HasCleanDisk (state g blank) × IsBlank no_schema (state g blank).now
      × (state g blank).may_leave trees

  -- Whatever a crash leaves of this store is such, or else this holds of it.
  abbrev pub LeavesBlankOr : (Trees → Type 0) → Held S → Type 0
  LeavesBlankOr Else conn = HasCleanDisk (state g conn) → (trees : Trees) → (state g conn).may_leave trees
      → WasBlank trees ⊎ Else trees

  -- It is beside the world that the split has not changed, as the child's.
  abbrev pub IsUnlent : Frame → Lending → List (Member S) → List (Member S) → Trees → Type 0
  IsUnlent f due old new trees = AllClean g new → (w next : World) (count : ℕ) → f ≡ w.frame
      → AreMembers g old count w → IsLent w next due → AllOpen g old
      → IsChildBeside w.frame w.packages due.child trees

  module _ {H : Type 0} (Takes : List ℕ → S → H → H → Type 0) where
    -- A shelf was given back the store of this connection, as that of the package of this UUID.
    -- Where its disk has given back what was written it had done so for the connection, and a crash
    -- leaves no more of it.
    abbrev pub GivenBack : List ℕ → Held S → H → H → Type 0
    GivenBack uuid conn before after = (store : S) × IsQuiet g.view g.faults g.recovers g.is_shielded conn.store store
        × Takes uuid store before after

    -- It was given back one store, as that of the child of a split, and nothing else.
    abbrev pub ReturnsChild : Frame → Lending → List (Member S) → List (Member S) → H → H → Type 0
    ReturnsChild f due old new before after = (conn : Held S) × LeavesBlankOr (IsUnlent f due old new) conn
        × GivenBack due.child conn before after

    -- The store of the child was given back where memory was wanting before the commit, and else the shelf is as it
    -- was.
    abbrev pub ReturnsUnlent : List ℕ → Held S → Result Receipt TurnFault → H → H → Type 0
    ReturnsUnlent uuid child (Ok receipt) before after = after ≡ before
    ReturnsUnlent uuid child (Err why) before after = (why ≢ Before fault.OutOfMemory → after ≡ before)
        × (why ≡ Before fault.OutOfMemory → GivenBack uuid child before after)

    module _ (Asks : List ℕ → H → H → Type 0) where
      -- It was asked for the store of the child, and nothing else. Where it gave one and the child did not come to be
      -- filled, a store was given back to it as that of the child.
      abbrev pub AsksChild : Frame → Lending → List (Member S) → List (Member S) → Result (Held S) ServeFault
          → H → H
          → Type 0
      AsksChild f due old new (Ok child) before after = Asks due.child before after
      AsksChild f due old new (Err (Unshelved why)) before after = Asks due.child before after
      AsksChild f due old new (Err (Turn why)) before after = (mid : H) × Asks due.child before mid
          × ReturnsChild f due old new mid after
