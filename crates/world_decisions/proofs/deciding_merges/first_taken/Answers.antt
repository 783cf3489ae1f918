-- Each item is looked at, and the first of those that clash is kept.
use Rattle.std.proofs.Common.{◌≡◌, ◌<◌, ◌≤◌, ◌∙◌, refl, sym, ap, subst, Ok, Some, None, length}
use Rattle.std.proofs.Common.{slice_get, take, arith}
use Rattle.std.proofs.lemmas.List.{take_all}
use Rattle.std.proofs.lemmas.Option.{slice_get_read}
use Rattle.world_decisions.specs.DecidingMerges.{first_clash}
use Rattle.world_decisions.proofs.Clashing.{clash_passed, clash_found}
use Rattle.world_queries.proofs.Questions.{asks_still, asks_answer, asks_failed, asks_then}
use Rattle.world_members.proofs.Standing.{stay_length}
use Rattle.world_decisions.proofs.deciding_merges.first_taken.Goals as goal
use Rattle.world_decisions.proofs.deciding_merges.first_taken.Goals.{in-Some, in_default}

pub loop-place-init : goal.loop-place-init
loop-place-init g c = record {
  asked = asks_still g.S.Store g.met.S.Store.shut_if_dirty g.met.S.Store.settled
      c.requires.rests (λ w count are p here. refl);
}

pub clash_at-requires-clause-within : goal.clash_at-requires-clause-within
clash_at-requires-clause-within g c = subst (λ n. c.args.at < n)
    (stay_length g.S.Store _ _ c.loop-place.invariant.asked.stay) c.requires.within

pub returns-in_err-clash : goal.returns-in_err-clash
returns-in_err-clash g c = asks_failed g.S.Store _ c.from_residual.ensures.0
    (asks_then g.S.Store _ refl c.loop-place.invariant.asked c.clash_at.ensures)

pub loop-place-preserved : goal.loop-place-preserved
loop-place-preserved g c =
    let place : slice_get c.args.items.now c.loop-place.place ≡ Some c.index-items-place.result =
    slice_get_read _ _ _ _ refl c.loop-place-test.true c.index-items-place.is in
    let asked = asks_then g.S.Store c.clash_at.result refl c.loop-place.invariant.asked c.clash_at.ensures in
    record {
      asked = elim c.match-branch-2.branch [
        | in-Some b ↦ asks_answer g.S.Store {x = Some b.in-Some.clash} (c.in_ok-clash.was ∙ ap Ok b.in-Some.is)
            (λ w count are both p here. b.first-is ∙ ap Some b.nearer.ensures
            ∙ clash_found p c.args.items.now c.loop-place.place c.index-items-place.result c.loop-place.first
            b.in-Some.clash place (both.1 p here) (both.0 p here)) asked
        | in_default b ↦ asks_answer g.S.Store {x = None} (c.in_ok-clash.was ∙ ap Ok b.in_default.is)
            (λ w count are both p here. b.first-is ∙ clash_passed p c.args.items.now c.loop-place.place
            c.index-items-place.result c.loop-place.first place (both.1 p here) (both.0 p here)) asked
      ];
    }

pub returns : goal.returns
returns g c =
    let past : length c.args.items.now ≤ c.loop-place.place = omega (arith, c.loop-place-test.false) in
    asks_answer g.S.Store {x = c.loop-place.first} refl (λ w count are told p here. told p here
    ∙ ap (first_clash p) (take_all c.loop-place.place c.args.items.now past)) c.loop-place.invariant.asked
