-- What the child holds is looked for in its parent; then what it would leave is looked at.
use Rattle.std.proofs.Common.{◌≡◌, ◌<◌, ◌∙◌, length, sym, ap, subst, Result, Ok, Err, Some, None}
use Rattle.std.specs.Prelude.{IfOk}
use Rattle.sheet_types.specs.World.{holdings}
use Rattle.sheet_types.specs.declared.refusal.Refusal.TheVariants.{Collides}
use Rattle.world_members.specs.Members.{AreMembers}
use Rattle.world_decisions.specs.Deciding.{Decides, HasPlace}
use Rattle.world_decisions.specs.DecidingMerges.{IsMergeAt, refusal_by_kept}
use Rattle.world_decisions.proofs.Decided.{counted_so, asks_worked}
use Rattle.world_decisions.proofs.DecidedMerges.{decides_by_held, held_told}
use Rattle.world_queries.proofs.Questions.{asks_answer, asks_failed}
use Rattle.world_members.proofs.Standing.{members_stay, stay_length}
use Rattle.world_decisions.proofs.deciding_merges.decide_held.Goals as goal

-- what holds of an answer under some premises holds under them of the answer, if there is one
under : {Y E : Type 0} (I : Type 0) (P Q : I → Type 0) (R : Type 0) (D : Y → Type 0) (q : Result Y E)
    → ((is : I) → P is → Q is → R → IfOk q D) → IfOk q (λ y. (is : I) → P is → Q is → R → D y)
under I P Q R D (Ok y) so = so
under I P Q R D (Err e) so = tt

pub returns-in_err-clash-clause-asks : goal.returns-in_err-clash-clause-asks
returns-in_err-clash-clause-asks g c = asks_failed g.S.Store _ c.from_residual.ensures.0 c.first_taken.ensures

pub returns-in-Some-clause-asks : goal.returns-in-Some-clause-asks
returns-in-Some-clause-asks g c =
    asks_answer g.S.Store {x = Some c.in-Some.clash} (c.in_ok-clash.was ∙ ap Ok c.in-Some.is)
    (λ w count are told is items_are links_are before.
    decides_by_held c.args.count c.args.from c.args.at c.args.request.now w (Collides c.in-Some.clash.identity) is
    (held_told c.args.count c.args.from c.args.at c.args.request.now w is c.args.items.now (Some c.in-Some.clash)
    items_are (told (holdings w is.into) is.into_at) before)) c.first_taken.ensures

pub decide_whole-requires-clause-from : goal.decide_whole-requires-clause-from
decide_whole-requires-clause-from g c =
    subst (λ ms. c.args.from < length ms) (sym c.as_slice.ensures.value)
    (subst (λ n. c.args.from < n) (stay_length g.S.Store _ _ c.first_taken.ensures.stay) c.requires.from)

pub decide_whole-requires-clause-within : goal.decide_whole-requires-clause-within
decide_whole-requires-clause-within g c =
    subst (λ ms. c.args.at < length ms) (sym c.as_slice.ensures.value)
    (subst (λ n. c.args.at < n) (stay_length g.S.Store _ _ c.first_taken.ensures.stay) c.requires.within)

pub returns-in-None-clause-asks : goal.returns-in-None-clause-asks
returns-in-None-clause-asks g c =
    asks_worked g.S.Store {x = None} c.decide_whole.result (c.in_ok-clash.was ∙ ap Ok c.in-None.is)
    (λ w n are told.
    under (IsMergeAt c.args.count c.args.from c.args.at c.args.request.now w)
    (λ is. c.args.items.now ≡ (holdings w is.child).items)
    (λ is. c.args.links.items ≡ (holdings w is.child).links) (refusal_by_kept w c.args.request.now ≡ None)
    (Decides w c.args.request.now) c.decide_whole.result
    (λ is items_are links_are before.
    let now : AreMembers g.S.Store c.as_slice.result.now c.args.count w =
    subst (λ ms. AreMembers g.S.Store ms c.args.count w) (sym c.as_slice.ensures.value)
    (counted_so g.S.Store _ n c.args.count w (members_stay g.S.Store _ _ n w c.first_taken.ensures.stay are)
    is.counted) in
    c.decide_whole.ensures.decides w now is (held_told c.args.count c.args.from c.args.at c.args.request.now w is
    c.args.items.now None items_are (told (holdings w is.into) is.into_at) before) items_are links_are))
    c.first_taken.ensures

pub returns-in-None-clause-place : goal.returns-in-None-clause-place
returns-in-None-clause-place g c = subst (λ ms. IfOk c.decide_whole.result
    (λ decision. HasPlace ms c.args.count decision)) c.as_slice.ensures.value c.decide_whole.ensures.place
