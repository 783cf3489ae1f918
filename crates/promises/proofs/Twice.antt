-- A request that comes twice, with others between.
use Rattle.std.specs.Prelude.{ℕ, List, [], ◌∷◌, ◌++◌, refl}
use Rattle.std.proofs.Common.{subst}
use Rattle.sqlite.specs.Store.{Ghosts}
use Rattle.sheet_types.specs.Lines.{HasTypes}
use Rattle.sheet_types.specs.Step.{Step}
use Rattle.sheet_types.specs.World.{World, new_world}
use Rattle.sheet_types.specs.declared.command.Request.{Request}
use Rattle.sheet_types.specs.declared.frame.Frame.{Frame}
use Rattle.sheet_kept_laws.specs.Laws.{Reply, HaveTypes}
use Rattle.sheet_kept_laws.proofs.Again.{acts_once}
use Rattle.world.specs.Asked.{IsRunWith, IsStepWith}
use Rattle.world.specs.Worlds.{Seen}
use Rattle.promises.specs.Calls.{IsBegun, Repeats, RunsTwice}
use Rattle.promises.specs.Promises.{OnceForGood}
use Rattle.promises.specs.declared.running.Begun.{Begun}
use Rattle.promises.specs.declared.repeating.Replies.{Replies}
use Rattle.promises.proofs.Begun.{run_of, register_first}
use Rattle.promises.proofs.Given.{
  given_behind,
  given_by_run,
  given_by_step,
  given_one,
  given_then,
  left_stores,
  right_stores,
}

module _ {S : Type 0} (g : Ghosts S) {H : Type 0} (Asked : List ℕ → H → H → Type 0)
    (Taken : List ℕ → S → H → H → Type 0) where
  pub runs_twice : {Fails : H → ℕ} (q : Request) (others : List Request) (old one two new : Seen S)
      (first again : Reply)
      (between : List Reply) (failed fails : ℕ) (s t u v : H) → IsStepWith g Asked Taken Fails q old first one s t
      → IsRunWith g Asked Taken Fails others one between two failed fails t u
      → IsStepWith g Asked Taken Fails q two again new u v
      → Repeats g Asked Taken q others old new s v (record { first = first; again = again })
  runs_twice q others old one two new first again between failed fails s t u v step run repeat =
      let by_first = given_by_step g Asked Taken q old first one s t step in
      let by_run = given_by_run g Asked Taken others one between two failed fails t u run in
      let by_repeat = given_by_step g Asked Taken q two again new u v repeat in
      let behind : List S = by_run.0 ++ by_repeat.0 in
      let each = given_then Asked Taken others (q ∷ []) t u v by_run.0 by_repeat.0 by_run.1
      (given_one Asked Taken q u v by_repeat.0 by_repeat.1) in
      record {
        stores = by_first.0 ++ behind;
        given = (t, by_first.0, behind, refl, by_first.1, each);
        so = λ clean disks.
            let tail = right_stores g by_first.0 behind disks in
            let clean_two = repeat.step.clean clean (by_repeat.2 (right_stores g by_run.0 by_repeat.0 tail)) in
            let run_gone = by_run.2 (left_stores g by_run.0 by_repeat.0 tail) in
            let first_gone = by_first.2 (left_stores g by_first.0 behind disks) in
            let clean_one = run.run.clean clean_two run_gone in (
              step.step.clean clean_one first_gone,
              λ w stands.
                  let given = step.step.step clean_one first_gone w stands in
                  let last = run.run.run clean_two run_gone given.0 given.2 in
                  let next = repeat.step.step clean (by_repeat.2 (right_stores g by_run.0 by_repeat.0 tail)) last.0
                  last.2 in
                  record {
                    given = given.0;
                    first = given.1;
                    between = between;
                    last = last.0;
                    run = last.1;
                    next = next.0;
                    again = next.1;
                    stands = next.2;
                  },
            );
      }

  pub once_for_good : (archive : List ℕ) (frame : Frame) (before : List Request) (q : Request)
      (others : List Request) (was : Begun S) (new : Seen S) (replies : Replies) (s t u : H) → HaveTypes before
      → HasTypes q.command → HaveTypes others → IsBegun g Asked Taken archive frame before s t was
      → Repeats g Asked Taken q others was.world new t u replies
      → OnceForGood g Asked Taken archive frame before q others s u (record { world = new; replies = replies })
  once_for_good archive frame before q others was new replies s t u types_before types types_others is twice = record {
    stores = is.stores ++ twice.stores;
    given = given_behind Asked Taken archive before (q ∷ (others ++ q ∷ [])) s t u is.stores twice.stores is.given
        twice.given;
    so = λ clean disks receipt given.
        let both = twice.so clean (right_stores g is.stores twice.stores disks) in
        let it = is.so both.0 (left_stores g is.stores twice.stores disks) in
        let ran : RunsTwice g it.world q others replies new = both.1 it.world it.stands in
        let start : World = new_world archive frame in
        let once = acts_once start it.world before q receipt ran.given others ran.between ran.last replies.again
        ran.next types_before types types_others
        (register_first start before was.replies.items it.world it.run)
        (was.replies.items, run_of start before was.replies.items it.world it.run)
        (subst (λ r. Step it.world q r ran.given) given ran.first) ran.run ran.again in
        (once.0, (ran.next, once.1, ran.stands));
  }
