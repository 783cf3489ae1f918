-- The texts are looked at, then all members for the identity, then the one member.
use Rattle.std.proofs.Common.{◌<◌, ◌∙◌, subst, ap, Ok, true}
use Rattle.sheet_types.specs.World.{holdings}
use Rattle.world_members.specs.Laws.{package_of}
use Rattle.world_decisions.proofs.Decided.{before_for_text, before_for_identity, before_by_package}
use Rattle.world_queries.proofs.Questions.{asks_weaker, asks_still, asks_answer, asks_then}
use Rattle.world_members.proofs.Standing.{stay_length}
use Rattle.world_decisions.proofs.deciding.refused_before.Goals as goal

pub returns-in-Some : goal.returns-in-Some
returns-in-Some g c =
    asks_still g.S.Store g.met.S.Store.shut_if_dirty g.met.S.Store.settled c.requires.rests
    (λ w count are knows there. before_for_text w c.args.request.now c.text_refusal.result c.in-Some.why
    c.text_refusal.ensures c.in-Some.is)

pub returns-then-branch : goal.returns-then-branch
returns-then-branch g c =
    asks_answer g.S.Store {x = true} (c.in_ok-is_used.was ∙ ap Ok c.if-branch.true)
    (λ w count are used knows there. before_for_identity w c.args.request.now c.text_refusal.result
    c.text_refusal.ensures c.in_default.is (used knows)) c.is_used.ensures

pub refusal_at-requires-clause-within : goal.refusal_at-requires-clause-within
refusal_at-requires-clause-within g c = subst (λ n. c.args.at < n) (stay_length g.S.Store _ _ c.is_used.ensures.stay)
    c.requires.within

pub returns : goal.returns
returns g c =
    asks_weaker g.S.Store _
    (λ why w count are told knows there. before_by_package w c.args.request.now c.text_refusal.result why
    c.text_refusal.ensures c.in_default.is (told.0 knows)
    (told.1 there.frame (holdings w (package_of c.args.request.now.command)) there.place))
    (asks_then g.S.Store _ (c.in_ok-is_used.was ∙ ap Ok c.if-branch.false) c.is_used.ensures c.refusal_at.ensures)
