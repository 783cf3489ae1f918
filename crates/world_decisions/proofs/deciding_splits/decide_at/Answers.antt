-- It is refused before its cut, or by it, or what it would leave is looked at.
use Rattle.std.proofs.Common.{◌<◌, ◌∙◌, subst, sym, ap, Ok, Err, Some, None, length}
use Rattle.sheet_types.specs.World.{holdings}
use Rattle.world_decisions.specs.DecidingSplits.{IsLender}
use Rattle.world_members.specs.Members.{AreMembers}
use Rattle.world_queries.proofs.Questions.{asks_weaker, asks_answer, asks_failed, asks_then}
use Rattle.world_decisions.proofs.SplitDecided.{split_refused_before, split_uncut}
use Rattle.world_members.proofs.Standing.{stay_length}
use Rattle.world_decisions.proofs.deciding_splits.decide_at.Goals as goal

pub returns-in-Some-clause-asks : goal.returns-in-Some-clause-asks
returns-in-Some-clause-asks g c =
    asks_answer g.S.Store {x = Some c.in-Some.why} (c.in_ok-why.was ∙ ap Ok c.in-Some.is)
    (λ w count are told knows is.
    let lends = c.lender_at-lender.ensures.kept w count (holdings w c.args.asked.now.package)
    (subst (λ ms. AreMembers g.S.Store ms count w) (sym c.as_slice.ensures.value) are) is.place in
    split_refused_before w c.args.request.now c.args.asked.now c.in-Some.why is.split
    (sym (told knows (record { frame = is.of_world.frame; asked = is.split.asked; deep = lends.depth }))))
    c.refused_before_cut.ensures.asks

pub returns-in_err-why-2-clause-asks : goal.returns-in_err-why-2-clause-asks
returns-in_err-why-2-clause-asks g c = asks_failed g.S.Store _ c.from_residual-in_err-why-2.ensures.0
    (asks_then g.S.Store {x = None} _ (c.in_ok-why.was ∙ ap Ok c.in_default.is) c.refused_before_cut.ensures.asks
    c.cut_at.ensures)

pub cut_at-requires-clause-within : goal.cut_at-requires-clause-within
cut_at-requires-clause-within g c = subst (λ n. c.args.at < n)
    (stay_length g.S.Store _ _ c.refused_before_cut.ensures.asks.stay) c.requires.within

pub cut_at-requires-clause-rect : goal.cut_at-requires-clause-rect
cut_at-requires-clause-rect g c = c.in_ok-why.ensures.rect c.in_default.is

pub returns-in-Err-clause-asks : goal.returns-in-Err-clause-asks
returns-in-Err-clause-asks g c =
    asks_answer g.S.Store {x = Err c.in-Err.why} (c.in_ok-why-2.was ∙ ap Ok c.in-Err.is)
    (λ w count are told knows is.
    let lends = c.lender_at-lender.ensures.kept w count (holdings w c.args.asked.now.package)
    (subst (λ ms. AreMembers g.S.Store ms count w) (sym c.as_slice.ensures.value) are) is.place in
    split_uncut w c.args.request.now c.args.asked.now c.in-Err.why is.split
    (sym (told.0 knows (record { frame = is.of_world.frame; asked = is.split.asked; deep = lends.depth })))
    (told.1 is.of_world.frame (holdings w c.args.asked.now.package) is.place))
    (asks_then g.S.Store {x = None} _ (c.in_ok-why.was ∙ ap Ok c.in_default.is) c.refused_before_cut.ensures.asks
    c.cut_at.ensures)

pub decide_selected-requires-clause-within : goal.decide_selected-requires-clause-within
decide_selected-requires-clause-within g c =
    subst (λ at. at < length c.cut_at.new.members.items) (sym c.lender_at-lender.ensures.at)
    (subst (λ n. c.args.at < n) (stay_length g.S.Store _ _ c.refused_before_cut.ensures.asks.stay
    ∙ stay_length g.S.Store _ _ c.cut_at.ensures.stay) c.requires.within)

pub decide_selected-requires-clause-shallow : goal.decide_selected-requires-clause-shallow
decide_selected-requires-clause-shallow g c = c.in_ok-why.ensures.shallow c.in_default.is

pub returns-in-Ok-clause-asks : goal.returns-in-Ok-clause-asks
returns-in-Ok-clause-asks g c =
    asks_weaker g.S.Store _
    (λ decision w count are told knows is.
    let lends : IsLender w (holdings w c.args.asked.now.package) c.lender_at-lender.result =
    c.lender_at-lender.ensures.kept w count (holdings w c.args.asked.now.package)
    (subst (λ ms. AreMembers g.S.Store ms count w) (sym c.as_slice.ensures.value) are) is.place in
    let taken = told.1.0 is.of_world.frame (holdings w c.args.asked.now.package) is.place in
    let before = sym (told.0 knows (record {
      frame = is.of_world.frame;
      asked = is.split.asked;
      deep = lends.depth;
    })) in
    told.1.1 (record {
      counted = is.of_world.counted;
      split = is.split;
      lends = lends;
      granted = record { before = before; cut = taken.0 };
      selected = taken.1;
    }))
    (asks_then g.S.Store {x = None} _ (c.in_ok-why.was ∙ ap Ok c.in_default.is) c.refused_before_cut.ensures.asks
    (asks_then g.S.Store {x = Ok c.in-Ok.selection} _ (c.in_ok-why-2.was ∙ ap Ok c.in-Ok.is) c.cut_at.ensures
    c.decide_selected.ensures.asks))
