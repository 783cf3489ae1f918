-- What carrying out the change of one package says in each of the ways in which it ends.
use Rattle.std.proofs.Common.{◌≡◌, refl, sym, ap, subst, ℕ, ◌+◌, List, Result, Ok, Err, IsErrAnd, OnOk}
use Rattle.sqlite.specs.Store.{Ghosts}
use Rattle.sheet_types.specs.World.{World}
use Rattle.sheet_types.specs.declared.command.Command.{Command}
use Rattle.sheet_types.specs.declared.receipt.Receipt.{Receipt}
use Rattle.store_sql.specs.Stores.{LeavesEither}
use Rattle.world_members.specs.Members.{AllRest, AllClean, AllOpen, AreMembers}
use Rattle.package_tables.specs.declared.fault.Fault.{Fault}
use Rattle.world.specs.Changes.{Changes}
use Rattle.world_changes.specs.Leaving.{AllSurvive}
use Rattle.world_changes.specs.Turns.{IsUncommitted}
use Rattle.world_changes.specs.Writing.{AllStayButOne}
use Rattle.world_members.specs.Turning.{IsDue, LeavesAsBefore, LeftAs, world_after}
use Rattle.register_lending.specs.declared.turn_fault.TurnFault.{TurnFault}
use Rattle.register_lending.specs.declared.turn_fault.TurnFault.TheVariants.{Before, Committing}
use Rattle.world_decisions.specs.declared.deciding.Change.{Change}
use Rattle.world_members.specs.declared.members.Member.{Member}

-- an error that was handed on, or turned into another
pub turned_into : {X E : Type 0} (r : Result X E) (e : E) → IsErrAnd r (λ why. why ≡ e) → r ≡ Err e
turned_into (Ok x) e told = absurd told
turned_into (Err y) e told = ap Err told

-- of which nothing is said
pub unmade : {X E : Type 0} (Fact : Type 0) (r : Result X E) (e : E) → r ≡ Err e → OnOk r Fact
unmade Fact r e told = subst (λ x. OnOk x Fact) (sym told) tt

module _ {S : Type 0} (g : Ghosts S) where
  -- what a crash leaves of a change that is due
  abbrev MayCrash : Change → Command → List (Member S) → List (Member S) → Type 0
  MayCrash change command old new = (w : World) (n : ℕ) → AreMembers g old n w
      → IsDue w change.at change.receipt command change.sums → AllOpen g old
      → LeavesEither g (λ m. m.conn) (LeftAs w.frame) new w.packages (world_after change.receipt command w).packages

  -- a change that failed
  pub changes_failed : (change : Change) (command : Command) (old new : List (Member S)) (count : ℕ) (e : TurnFault)
      (r : Result Receipt TurnFault) → r ≡ Err e → AllSurvive g old new → AllStayButOne g old new
      → AllRest g new
      → (AllClean g new → AllClean g old)
      → ((w : World) (n : ℕ) → AreMembers g old n w → AreMembers g new n w) → MayCrash change command old new
      → ((fault : Fault) → e ≡ Before fault → LeavesAsBefore g old new)
      → Changes g change command old new count count r
  changes_failed change command old new count e r failed survive others rests clean undone crash unharmed =
      subst (Changes g change command old new count count) (sym failed) (record {
        survive = survive;
        others = others;
        rests = rests;
        clean = clean;
        crash = λ w are due opened. crash w count are due opened;
        opens = λ disks. tt;
        ok = λ receipt is. absurd (let f = is in cc);
        err = λ fault is. (refl, λ w are. undone w count are);
        unharmed = elim e as (λ x. e ≡ x → IsUncommitted {X = Receipt} (Err x) → LeavesAsBefore g old new) [
          | Before fault ↦ λ is none. unharmed fault is
          | Committing fault ↦ λ is none. absurd none
        ] refl;
      })

  -- and one that was carried out
  pub changes_done : (change : Change) (command : Command) (old new : List (Member S)) (before after : ℕ)
      → AllSurvive g old new → AllStayButOne g old new → AllRest g new → (AllClean g new → AllClean g old)
      → after ≡ before + 1
      → ((w : World) (n : ℕ) → AreMembers g old n w → IsDue w change.at change.receipt command change.sums
      → AreMembers g new (n + 1) (world_after change.receipt command w))
      → MayCrash change command old new → (AllClean g new → AllOpen g old → AllOpen g new)
      → Changes g change command old new before after (Ok change.receipt)
  changes_done change command old new before after survive others rests clean counted done crash opens = record {
    survive = survive;
    others = others;
    rests = rests;
    clean = clean;
    crash = λ w are due opened. crash w before are due opened;
    opens = opens;
    ok = λ receipt is. (
      let same : receipt ≡ change.receipt =
          cc in same,
      counted,
      λ w are due. done w before are due,
    );
    err = λ fault is. absurd (let e = is in cc);
    unharmed = λ none. absurd none;
  }
