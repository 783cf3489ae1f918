-- All that would be due is made of what the member tells.
use Rattle.std.proofs.Common.{◌<◌, ◌≤◌, ◌∙◌, refl, sym, ap, subst, length}
use Rattle.sheet_types.specs.World.{holdings}
use Rattle.sheet_types.specs.Step.{cut_of}
use Rattle.world_members.specs.Members.{AreMembers}
use Rattle.world_members.specs.Steps.{sums_less}
use Rattle.world_decisions.proofs.Decided.{counted_so}
use Rattle.world_queries.proofs.Questions.{asks_answer, asks_failed}
use Rattle.world_decisions.proofs.SplitDecided.{split_part, split_made, members_before}
use Rattle.world_members.proofs.Standing.{members_stay, stay_length}
use Rattle.world_decisions.proofs.deciding_splits.decide_selected.Goals as goal

pub returns-in_err-receipt-clause-asks : goal.returns-in_err-receipt-clause-asks
returns-in_err-receipt-clause-asks g c = asks_failed g.S.Store _ c.from_residual.ensures.0 c.parted_at.ensures.asks

pub decide_by_sums-requires-clause-at : goal.decide_by_sums-requires-clause-at
decide_by_sums-requires-clause-at g c = subst (λ ms. c.args.lender.at < length ms) (sym c.as_slice-2.ensures.value)
    (subst (λ n. c.args.lender.at < n) (stay_length g.S.Store _ _ c.parted_at.ensures.asks.stay) c.requires.within)

pub decide_by_sums-requires-clause-child_at : goal.decide_by_sums-requires-clause-child_at
decide_by_sums-requires-clause-child_at g c = subst (λ ms. c.place_for.result ≤ length ms)
    (c.as_slice.ensures.value ∙ sym c.as_slice-2.ensures.value) c.place_for.ensures.within

pub returns-clause-asks : goal.returns-clause-asks
returns-clause-asks g c =
    asks_answer g.S.Store {x = (c.in_ok-receipt.receipt, c.in_ok-receipt.left)} c.in_ok-receipt.was
    (λ w n are told is.
    let here = counted_so g.S.Store _ n c.args.count w (members_stay g.S.Store _ _ n w c.parted_at.ensures.asks.stay
    are) is.counted in
    let made = told (holdings w c.args.asked.now.package) (cut_of w c.args.asked.now.package c.args.asked.now.mode
    c.args.asked.now.rect) is.lends.place is.selected
    (split_part w c.args.request.now c.args.asked.now are.register is.split is.granted) in
    let child_at = c.place_for.ensures.place ∙ members_before g.S.Store c.as_slice.result.now c.args.count w
    c.args.asked.now.child (subst (λ ms. AreMembers g.S.Store ms c.args.count w)
    (sym c.as_slice.ensures.value) here) in
    c.decide_by_sums.ensures.decides w c.args.request.now c.args.asked.now
    (subst (λ ms. AreMembers g.S.Store ms c.args.count w) (sym c.as_slice-2.ensures.value) here)
    (split_made w c.args.request.now c.args.asked.now c.args.lender c.args.count is.split is.lends is.counted _ _
    is.granted is.selected refl child_at refl refl refl refl made c.sums_moved-lent.ensures
    (c.in_ok-receipt.ensures.left ∙ ap (λ s. sums_less s c.args.lender.held) (sym c.sums_moved-lent.ensures))))
    c.parted_at.ensures.asks
