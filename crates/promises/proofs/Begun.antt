-- A new world, and a list of requests.
use Rattle.std.specs.Prelude.{ℕ, List, [], ◌∷◌}
use Rattle.std.proofs.Common.{sym, subst, ◌∙◌}
use Rattle.sqlite.specs.Store.{Ghosts}
use Rattle.sheet_types.specs.Register.{IsRegister}
use Rattle.sheet_types.specs.Step.{Run}
use Rattle.sheet_types.specs.World.{World, new_world}
use Rattle.sheet_types.specs.declared.command.Request.{Request}
use Rattle.sheet_types.specs.declared.frame.Frame.{Frame}
use Rattle.sheet_kept_laws.specs.Laws.{Reply, HaveTypes}
use Rattle.opening_laws_model.specs.Timely.{IsTimely}
use Rattle.opening_laws_model.proofs.Timed.{step_keeps_timely}
use Rattle.world.specs.Asked.{IsRunWith}
use Rattle.world.specs.Worlds.{Seen, RunsOverRegisters}
use Rattle.promises.specs.Clean.{IsGivenFromNew, WhereClean}
use Rattle.promises.specs.Calls.{IsNew, StandsAfter}
use Rattle.promises.proofs.Given.{given_by_run}

-- a run over registers is a run
pub run_of : (w : World) (qs : List Request) (replies : List Reply) (next : World) → RunsOverRegisters w qs replies
    next → Run w qs replies next
run_of w [] [] next ran = ran.0
run_of w [] (reply ∷ replies) next ran = absurd ran
run_of w (q ∷ qs) [] next ran = absurd ran
run_of w (q ∷ qs) (reply ∷ replies) next ran = (ran.1.0, ran.1.1, run_of ran.1.0 qs replies next ran.1.2)

-- that begins with a register
pub register_first : (w : World) (qs : List Request) (replies : List Reply) (next : World) → RunsOverRegisters w qs
    replies next → IsRegister w
register_first w [] [] next ran = ran.1
register_first w [] (reply ∷ replies) next ran = absurd ran
register_first w (q ∷ qs) [] next ran = absurd ran
register_first w (q ∷ qs) (reply ∷ replies) next ran = ran.0

-- and keeps that each receipt says a moment
pub timely_last : (w : World) (qs : List Request) (replies : List Reply) (next : World) → HaveTypes qs → IsTimely w
    → RunsOverRegisters w qs replies next → IsTimely next
timely_last w [] [] next types timely ran = subst IsTimely (sym ran.0) timely
timely_last w [] (reply ∷ replies) next types timely ran = absurd ran
timely_last w (q ∷ qs) [] next types timely ran = absurd ran
timely_last w (q ∷ qs) (reply ∷ replies) next types timely ran =
    timely_last ran.1.0 qs replies next types.1 (step_keeps_timely w q reply ran.1.0 types.0 ran.0 timely ran.1.1)
    ran.1.2

module _ {S : Type 0} (g : Ghosts S) {H : Type 0} (Asked : List ℕ → H → H → Type 0)
    (Taken : List ℕ → S → H → H → Type 0) where
  pub begun : {Fails : H → ℕ} (archive : List ℕ) (frame : Frame) (requests : List Request) (first new : Seen S)
      (replies : List Reply) (failed fails : ℕ) (before made after : H) → IsNew g archive frame first
      → Asked archive before made → IsRunWith g Asked Taken Fails requests first replies new failed fails made after
      → WhereClean g (IsGivenFromNew Asked Taken archive requests before after) new
      (StandsAfter g archive frame requests replies new)
  begun archive frame requests first new replies failed fails before made after is_new asked ran =
      let shelf = given_by_run g Asked Taken requests first replies new failed fails made after ran in
      record {
        stores = shelf.0;
        given = (made, asked, shelf.1);
        so = λ clean disks.
            let gone = shelf.2 disks in
            let was = ran.run.clean clean gone in
            let it = ran.run.registers clean gone (new_world archive frame) (is_new.stands was) in
            record {
              world = it.0;
              run = it.1;
              stands = it.2;
              opens = λ answers. ran.run.opens clean gone answers
                  (is_new.opens was);
              usable = λ answers. ran.run.usable answers ∙ is_new.usable;
            };
      }
