-- What the change of one package makes of the members of a world. Profile.
use Rattle.std.specs.Prelude.{◌≡◌, ℕ, ◌+◌, List, Result, Ok, Err, IfOk}
use Rattle.sqlite.specs.Store.{Ghosts}
use Rattle.sheet_types.specs.World.{World}
use Rattle.sheet_types.specs.declared.command.Command.{Command}
use Rattle.sheet_types.specs.declared.receipt.Receipt.{Receipt}
use Rattle.store_sql.specs.Stores.{LeavesEither}
use Rattle.world_members.specs.Members.{AllRest, AllClean, AllOpen, AreMembers}
use Rattle.world_members.specs.Turning.{IsDue, LeavesAsBefore, LeftAs, world_after}
use Rattle.register_lending.specs.declared.turn_fault.TurnFault.{TurnFault}
use Rattle.world_changes.specs.Leaving.{AllSurvive}
use Rattle.world_changes.specs.Turns.{IsUncommitted}
use Rattle.world_changes.specs.Writing.{AllStayButOne}
use Rattle.world_decisions.specs.declared.deciding.Change.{Change}
use Rattle.world_members.specs.declared.members.Member.{Member}

module _ {S : Type 0} (g : Ghosts S) where
  -- A change that is due was carried out: the receipt is the reply and its number the new count. Or it failed, and
  -- nothing has changed.
  pub record Changes (change : Change) (command : Command) (old new : List (Member S)) (before after : ℕ)
      (r : Result Receipt TurnFault) : Type 0 where
    pub rests : AllRest g new
    pub survive : AllSurvive g old new
    -- all stores but one at most were only read
    pub others : AllStayButOne g old new
    pub clean : AllClean g new → AllClean g old
    pub ok : (receipt : Receipt) → r ≡ Ok receipt → (receipt ≡ change.receipt) × (after ≡ before + 1)
        × ((w : World) → AreMembers g old before w → IsDue w change.at change.receipt command change.sums
        → AreMembers g new (before + 1) (world_after change.receipt command w))
    pub crash : (w : World) → AreMembers g old before w → IsDue w change.at change.receipt command change.sums
        → AllOpen g old
        → LeavesEither g (λ m. m.conn) (LeftAs w.frame) new w.packages
        (world_after change.receipt command w).packages
    pub opens : AllClean g new → IfOk r (λ receipt. AllOpen g old → AllOpen g new)
    pub err : (fault : TurnFault) → r ≡ Err fault
        → (after ≡ before) × ((w : World) → AreMembers g old before w → AreMembers g new before w)
    pub unharmed : IsUncommitted r → LeavesAsBefore g old new
