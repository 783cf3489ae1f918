-- The turn that one member's store takes in a split or a merge, and what is kept of the member then. Profile.
use Rattle.std.specs.Prelude.{◌≡◌, ℕ, ⊤, List, Some, slice_get, slice_set, Result, Ok, Err, IsTrue}
use Rattle.sqlite.specs.Effect.{Database}
use Rattle.sqlite.specs.Held.{Held, state}
use Rattle.sqlite.specs.Store.{Ghosts}
use Rattle.sheet_types.specs.declared.receipt.Sums.{Sums}
use Rattle.store_sql.specs.Transactions.{Turns}
use Rattle.sqlite.specs.Tree.{Trees}
use Rattle.std.specs.List.{AllZip}
use Rattle.register_lending.specs.declared.turn_fault.TurnFault.{TurnFault}
use Rattle.register_lending.specs.declared.turn_fault.TurnFault.TheVariants.{Before, Committing}
use Rattle.world_members.specs.Members.{AllClean}
use Rattle.world_members.specs.declared.members.Member.{Member}

-- no commit was tried
abbrev pub IsUncommitted : {X : Type 0} → Result X TurnFault → Type 0
IsUncommitted (Ok x) = ⊥
IsUncommitted (Err (Before fault)) = ⊤
IsUncommitted (Err (Committing fault)) = ⊥

module _ {S : Type 0} (g : Ghosts S) where
  -- the member after its store took a turn; where that went well, this is kept of it
  abbrev pub after_turn : {E : Type 0} → Sums → ℕ → Member S → Held S → Result (Unit {0}) E → Member S
  after_turn sums ticket was last (Ok x) = record was { conn = last; sums = sums; ticket = ticket }
  after_turn sums ticket was last (Err e) = record was { conn = last }

  -- The store of the member at a place took this turn, or is as it was, and all other members are as they were.
  pub record TakesTurn {E : Type 0} (Change : Database → Database → Type 0) (sums : Sums) (ticket : ℕ)
      (old new : List (Member S)) (at : ℕ) (reply : Result (Unit {0}) E) : Type 0 where
    pub was : Member S
    pub place : slice_get old at ≡ Some was
    pub last : Held S
    pub others : new ≡ slice_set old at (after_turn sums ticket was last reply)
    pub turns : Turns (λ _. Change) (state g was.conn) (state g last) reply
    pub was_open : IsTrue (state g last).is_open → IsTrue (state g was.conn).is_open

  -- a crash leaves of each member no more than it left before
  abbrev pub LeavesNoMore : List (Member S) → List (Member S) → Type 0
  LeavesNoMore old new = AllClean g new
      → AllZip (λ m n. (trees : Trees) → (state g n.conn).may_leave trees → (state g m.conn).may_leave trees)
      old new
