-- What a merge makes of the members of a world. Profile.
use Rattle.std.specs.List.{remove}
use Rattle.std.specs.Prelude.{◌≡◌, ℕ, ◌+◌, List, [], ◌∷◌, map, length, Some, slice_get, Result, Ok}
use Rattle.std.specs.Prelude.{Err, IfOk}
use Rattle.sqlite.specs.Held.{Held, state}
use Rattle.sqlite.specs.Store.{Ghosts}
use Rattle.sheet_types.specs.World.{World}
use Rattle.sheet_types.specs.declared.receipt.Receipt.{Receipt}
use Rattle.store_sql.specs.Staying.{Stays}
use Rattle.world_changes.specs.Leaving.{AllSurvive, AreClean, AreBeside, LeavesOneOf, WereRead}
use Rattle.world_loans.specs.Loans.{IsReturned}
use Rattle.world_members.specs.Members.{AllRest, AllClean, AllOpen, AreMembers}
use Rattle.world_changes.specs.Writing.{AllStayButOne}
use Rattle.world_changes.specs.Turns.{IsUncommitted}
use Rattle.world_members.specs.Turning.{LeavesAsBefore}
use Rattle.register_lending.specs.declared.turn_fault.TurnFault.{TurnFault}
use Rattle.world_loans.specs.declared.loans.Returning.{Returning}
use Rattle.world_members.specs.declared.members.Member.{Member}

-- the child's connection, which has left the list
abbrev pub left_by : {S : Type 0} → Result (Receipt × Held S) TurnFault → List (Held S)
left_by (Ok merged) = merged.1 ∷ []
left_by (Err why) = []

module _ {S : Type 0} (g : Ghosts S) where
  -- The parent took home what the child held, and the child has left the list, only read; or both are as they were.
  pub record Merges (due : Returning) (old new : List (Member S)) (r : Result (Receipt × Held S) TurnFault) :
      Type 0 where
    pub rests : AllRest g new
    pub clean : AllClean g new → AreClean g (left_by r) → AllClean g old
    pub done : (merged : Receipt × Held S) → r ≡ Ok merged → (merged.0 ≡ due.receipt)
        × (length new + 1 ≡ length old)
        × ((w next : World) (count : ℕ) → AllClean g new → AreClean g (left_by r) → AreMembers g old count w
        → IsReturned w next due → AreMembers g new (count + 1) next)
    pub opens : AllClean g new → AreClean g (left_by r) → IfOk r (λ merged. AllOpen g old → AllOpen g new)
    -- the child's store was only read
    pub read : WereRead g old (left_by r)
    -- and is that of the member which was to leave
    pub home : (merged : Receipt × Held S) → r ≡ Ok merged → (member : Member S)
        × (slice_get old due.from ≡ Some member) × Stays (state g member.conn) (state g merged.1)
    -- of the others all but one at most were only read
    pub others : (merged : Receipt × Held S) → r ≡ Ok merged → AllStayButOne g (remove old due.from) new
    pub kept : (why : TurnFault) → r ≡ Err why → AllStayButOne g old new
    -- what a crash leaves of the child is beside the world after
    pub beside : (merged : Receipt × Held S) → r ≡ Ok merged → (w next : World) (count : ℕ)
        → AreMembers g old count w
        → IsReturned w next due → AllOpen g old → AreBeside g w.frame next.packages (left_by r)
    pub survive : (why : TurnFault) → r ≡ Err why → AllSurvive g old new
    pub failed : (why : TurnFault) → r ≡ Err why
        → (length new ≡ length old) × ((w : World) (count : ℕ) → AreMembers g old count w
        → AreMembers g new count w)
    pub unharmed : IsUncommitted r → LeavesAsBefore g old new
    -- After an error, whatever a crash leaves of the members reads as the world before, or as the one after with the
    -- child beside it.
    pub crash : (why : TurnFault) → r ≡ Err why → (w next : World) (count : ℕ) → AreMembers g old count w
        → IsReturned w next due → AllOpen g old → LeavesOneOf g w.frame (map (λ m. m.conn) new) w.packages
        next.packages
