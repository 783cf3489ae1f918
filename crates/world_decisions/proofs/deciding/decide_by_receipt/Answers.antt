-- The member tells what is moved, and the receipt is made of it.
use Rattle.std.proofs.Common.{◌<◌, ◌∙◌, length, sym, ap, subst, Ok, Some}
use Rattle.world_members.specs.Members.{AreMembers}
use Rattle.world_decisions.proofs.Decided.{receipt_made, counted_so}
use Rattle.world_queries.proofs.Questions.{asks_answer}
use Rattle.world_members.proofs.Standing.{members_stay, stay_length}
use Rattle.world_decisions.proofs.deciding.decide_by_receipt.Goals as goal

pub returns-clause-asks : goal.returns-clause-asks
returns-clause-asks g c =
    asks_answer g.S.Store {x = Some c.in-Some.thing} (c.in_ok-thing.was ∙ ap Ok c.in-Some.is)
    (λ w n are told placed before.
    let now : AreMembers g.S.Store c.as_slice.result.now c.args.count w =
    subst (λ ms. AreMembers g.S.Store ms c.args.count w) (sym c.as_slice.ensures.value)
    (counted_so g.S.Store _ n c.args.count w (members_stay g.S.Store _ _ n w c.thing_moved.ensures.stay are)
    placed.asked.counted) in
    c.decide_by_sums.ensures.decides w now placed before (receipt_made c.args.count c.args.request.now w c.in-Some.thing
    c.in-Ok.receipt c.in-Ok.ensures.whole placed.asked.counted (told placed.asked.one placed.place)))
    c.thing_moved.ensures

pub decide_by_sums-requires-clause-within : goal.decide_by_sums-requires-clause-within
decide_by_sums-requires-clause-within g c = subst (λ ms. c.args.at < length ms) (sym c.as_slice.ensures.value)
    (subst (λ n. c.args.at < n) (stay_length g.S.Store _ _ c.thing_moved.ensures.stay) c.requires.within)
