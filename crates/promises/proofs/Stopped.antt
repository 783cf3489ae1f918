-- A stop after a list of requests and one behind them.
use Rattle.std.specs.Prelude.{ℕ, List, [], ◌∷◌, ◌++◌, refl}
use Rattle.std.proofs.Common.{inl}
use Rattle.sqlite.specs.Store.{Ghosts}
use Rattle.sheet_types.specs.Lines.{HasTypes}
use Rattle.sheet_types.specs.Step.{outcome}
use Rattle.sheet_types.specs.World.{World, new_world}
use Rattle.sheet_types.specs.declared.command.Request.{Request}
use Rattle.sheet_types.specs.declared.frame.Frame.{Frame}
use Rattle.sheet_kept_laws.specs.Laws.{Reply, HaveTypes}
use Rattle.sheet_laws.proofs.Running.{step_keeps_register}
use Rattle.opening_laws_model.proofs.Timed.{new_world_is_timely, step_keeps_timely}
use Rattle.world.specs.Worlds.{Seen}
use Rattle.promises.specs.Calls.{IsKeptWorld, IsBegun, Asks}
use Rattle.promises.specs.Promises.{StopsWhole}
use Rattle.promises.specs.declared.running.Begun.{Begun}
use Rattle.promises.proofs.Begun.{timely_last}
use Rattle.promises.proofs.Disks.{both_clean, stores_clean}
use Rattle.promises.proofs.Given.{given_behind, given_one, left_stores, right_stores}

-- what a request makes of a world that is kept is one too
pub kept_after : (w : World) (q : Request) → HasTypes q.command → IsKeptWorld w → IsKeptWorld (outcome w q).1
kept_after w q types kept = (
  step_keeps_register w q (outcome w q).0 (outcome w q).1 types kept.0 (inl (refl, refl)),
  step_keeps_timely w q
      (outcome w q).0 (outcome w q).1 types kept.0 kept.1 (inl (refl, refl)),
)

module _ {S : Type 0} (g : Ghosts S) {H : Type 0} (Asked : List ℕ → H → H → Type 0)
    (Taken : List ℕ → S → H → H → Type 0) where
  pub stops_whole : (archive : List ℕ) (frame : Frame) (before : List Request) (q : Request) (was : Begun S)
      (new : Seen S) (last : Reply) (s t u : H) → HaveTypes before → HasTypes q.command → IsBegun g Asked Taken
      archive frame before s t was → Asks g Asked Taken q was.world new t u last
      → StopsWhole g Asked Taken archive frame before q s u (record
      { world = new; replies = was.replies; last = last })
  stops_whole archive frame before q was new last s t u types_before types is asked = record {
    stores = is.stores ++ asked.stores;
    given = given_behind Asked Taken archive before (q ∷ []) s t u is.stores asked.stores is.given
        (given_one Asked Taken q t u asked.stores asked.given);
    so = λ clean disks.
        let mine = right_stores g is.stores asked.stores disks in
        let it = is.so (asked.clean clean mine) (left_stores g is.stores asked.stores disks) in
        let kept : IsKeptWorld it.world = (
          it.stands.members.register,
          timely_last (new_world archive frame) before was.replies.items it.world
              types_before (new_world_is_timely archive frame) it.run,
        ) in (
          it.world,
          it.run,
          kept,
          kept_after it.world q types kept,
          λ answers strays contents may.
              asked.left (both_clean g new.strays _ strays (stores_clean g new.members clean)) mine it.world
              it.stands (it.opens answers) (it.usable answers) contents may,
        );
  }
