-- A stop, the opening of what it left, and the list again from the stopped request on.
use Rattle.std.specs.Prelude.{◌≡◌, ◌⊎◌, ℕ, true, false, Bool, List, [], ◌∷◌, refl, Some, Ok, Err}
use Rattle.std.specs.Prelude.{slice_get}
use Rattle.std.proofs.Common.{subst, inl, inr}
use Rattle.sqlite.specs.Held.{Held}
use Rattle.sqlite.specs.Store.{Ghosts}
use Rattle.sqlite.specs.Tree.{Trees}
use Rattle.sheet_types.specs.Lines.{HasTypes}
use Rattle.sheet_types.specs.Step.{outcome}
use Rattle.sheet_types.specs.World.{World, new_world}
use Rattle.sheet_types.specs.declared.command.Request.{Request}
use Rattle.sheet_types.specs.declared.frame.Frame.{Frame}
use Rattle.sheet_kept_laws.specs.Laws.{Reply, HaveTypes, ComesTo, IsBeforeOrAfter}
use Rattle.sheet_kept_laws.proofs.Stopped.{stopped_acts_once}
use Rattle.opening_laws.specs.Stores.{AreWithStrays}
use Rattle.world.specs.Worlds.{RunsOverRegisters}
use Rattle.promises.specs.Calls.{IsKeptWorld, AreOf, AreLeft}
use Rattle.promises.specs.Promises.{StopsWhole}
use Rattle.promises.specs.Openings.{OpensAgain}
use Rattle.promises.specs.Survivals.{AreOpenedFrom, GoesOn, SurvivesStop}
use Rattle.promises.specs.declared.reopening.Resumed.{Resumed}
use Rattle.promises.specs.declared.stopping.Stopped.{Stopped}
use Rattle.promises.proofs.Begun.{run_of, register_first}

-- what is left is of the world before, or of the one after
one_of : (w : World) (q : Request) (reply : Reply) (failed : Bool) (contents : List Trees)
    → AreLeft w q reply failed contents → AreOf w contents ⊎ AreOf (outcome w q).1 contents
one_of w q (Ok receipt) failed contents left = inr left
one_of w q (Err why) false contents left = inl left
one_of w q (Err why) true contents left = left

module _ {S : Type 0} (g : Ghosts S) {H : Type 0} (Asked : List ℕ → H → H → Type 0)
    (Taken : List ℕ → S → H → H → Type 0) (archive : List ℕ) (frame : Frame) (before : List Request)
    (q : Request)
    (others : List Request) (stores : List (Held S)) (resumed : Resumed S) (u v : H)
    (types_before : HaveTypes before) (types : HasTypes q.command)
    (opens : OpensAgain g Asked Taken stores (q ∷ others) u v resumed) where
  abbrev start : World
  start = new_world archive frame

  goes_on : (w : World) (replies : List Reply) → RunsOverRegisters start before replies w → (contents : List Trees)
      (from : AreOpenedFrom g w q contents stores) (left : World) → IsBeforeOrAfter w q left → IsKeptWorld left
      → AreOf left contents → AreWithStrays g left from.again stores → GoesOn g Asked Taken archive frame before q
      others w u v resumed
  goes_on w replies ran contents from left among kept of_left beside =
      let opened = opens left contents from.again kept of_left from.opened beside in
      record {
        stores = opened.stores;
        given = opened.given;
        so = λ clean disks strays.
            let it = opened.so clean disks strays in
            let came : ComesTo start before w = (replies, run_of start before replies w ran) in
            let once = stopped_acts_once start w before q left others resumed.replies.items it.0 types_before types
            (register_first start before replies w ran) came among
            (run_of left (q ∷ others) resumed.replies.items it.0 it.1) in
            (once.0, (it.0, once.1, it.3));
      }

  pub survives : (stopped : Stopped S) (s t : H) → StopsWhole g Asked Taken archive frame before q s t stopped
      → SurvivesStop g Asked Taken archive frame before (q ∷ others) stores s t u v
      (record { stopped = stopped; resumed = resumed })
  survives stopped s t whole = record {
    stores = whole.stores;
    given = whole.given;
    so = λ clean disks.
        let it = whole.so clean disks in (
          it.0,
          it.1,
          λ answers strays contents may from.
              elim (one_of it.0 q stopped.last stopped.world.has_failed contents (it.4 answers strays contents may)) [
                | inl of_before ↦ goes_on it.0 stopped.replies.items it.1 contents from it.0 (inl refl) it.2
                    of_before from.before
                | inr of_after ↦ goes_on it.0 stopped.replies.items it.1 contents from (outcome it.0 q).1 (inr refl)
                    it.3 of_after from.after
              ],
        );
  }

module _ {S : Type 0} (g : Ghosts S) {H : Type 0} (Asked : List ℕ → H → H → Type 0)
    (Taken : List ℕ → S → H → H → Type 0) (archive : List ℕ) (frame : Frame) (before : List Request)
    (stores : List (Held S)) (stopped : Stopped S) (resumed : Resumed S) (s t u v : H) where
  -- the list that is sent again begins with the request that was stopped
  pub survives_from : (again : List Request) (q : Request) → Some q ≡ slice_get again 0 → HaveTypes before
      → HasTypes q.command → OpensAgain g Asked Taken stores again u v resumed → StopsWhole g Asked Taken archive
      frame before q s t stopped → SurvivesStop g Asked Taken archive frame before again stores s t u v
      (record { stopped = stopped; resumed = resumed })
  survives_from [] q is types_before types opens whole = tt
  survives_from (first ∷ others) q is types_before types opens whole =
      let same : q ≡ first = (let e = is in cc) in
      survives g Asked Taken archive frame before first others stores resumed u v types_before
      (subst (λ x. HasTypes x.command) same types) opens stopped s t
      (subst (λ x. StopsWhole g Asked Taken archive frame before x s t stopped) same whole)
