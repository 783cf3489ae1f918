-- Either it is refused before, or what it would leave is looked at.
use Rattle.std.proofs.Common.{◌<◌, ◌∙◌, subst, sym, ap, Ok, Some, None}
use Rattle.world_decisions.proofs.Decided.{decides_refused, of_own_frame}
use Rattle.world_queries.proofs.Questions.{asks_weaker, asks_answer, asks_then}
use Rattle.world_members.proofs.Standing.{stay_length}
use Rattle.world_decisions.proofs.deciding.decide_at.Goals as goal

pub returns-in-Some-clause-asks : goal.returns-in-Some-clause-asks
returns-in-Some-clause-asks g c =
    asks_answer g.S.Store {x = Some c.in-Some.why} (c.in_ok-why.was ∙ ap Ok c.in-Some.is)
    (λ w count are told knows placed. decides_refused c.args.frame.now c.args.count c.args.at c.args.request.now w
    c.in-Some.why placed (sym (told knows (record { frame = placed.asked.frame; place = placed.place }))))
    c.refused_before.ensures

pub decide_by_receipt-requires-clause-within : goal.decide_by_receipt-requires-clause-within
decide_by_receipt-requires-clause-within g c = subst (λ n. c.args.at < n)
    (stay_length g.S.Store _ _ c.refused_before.ensures.stay) c.requires.within

pub returns-clause-asks : goal.returns-clause-asks
returns-clause-asks g c =
    asks_weaker g.S.Store _ (λ decision w count are told knows placed. told.1
    (of_own_frame c.args.frame.now c.args.count c.args.at c.args.request.now w placed)
    (sym (told.0 knows (record { frame = placed.asked.frame; place = placed.place }))))
    (asks_then g.S.Store {x = None} _ (c.in_ok-why.was ∙ ap Ok c.in_default.is) c.refused_before.ensures
    c.decide_by_receipt.ensures.asks)
