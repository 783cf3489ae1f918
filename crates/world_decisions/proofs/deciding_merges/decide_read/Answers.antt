-- What the child holds is read, and the places of its tiles are looked for in its parent.
use Rattle.std.proofs.Common.{◌<◌, ◌∙◌, subst}
use Rattle.sheet_types.specs.World.{holdings}
use Rattle.world_queries.proofs.Questions.{asks_weaker, asks_failed, asks_then}
use Rattle.world_members.proofs.Standing.{stay_length}
use Rattle.world_decisions.proofs.deciding_merges.decide_read.Goals as goal

pub returns-in_err-items-clause-asks : goal.returns-in_err-items-clause-asks
returns-in_err-items-clause-asks g c = asks_failed g.S.Store _ c.from_residual.ensures.0 c.holdings_at.ensures

pub decide_held-requires-clause-from : goal.decide_held-requires-clause-from
decide_held-requires-clause-from g c = subst (λ n. c.args.from < n)
    (stay_length g.S.Store _ _ c.holdings_at.ensures.stay) c.requires.from

pub decide_held-requires-clause-within : goal.decide_held-requires-clause-within
decide_held-requires-clause-within g c = subst (λ n. c.args.at < n)
    (stay_length g.S.Store _ _ c.holdings_at.ensures.stay) c.requires.within

pub returns-clause-asks : goal.returns-clause-asks
returns-clause-asks g c =
    asks_weaker g.S.Store _
    (λ decision w count are both is before.
    let held = both.0 (holdings w is.child) is.child_at in
    both.1 is (c.deref.ensures.value ∙ held.0) held.1 before)
    (asks_then g.S.Store _ c.in_ok-items.was c.holdings_at.ensures c.decide_held.ensures.asks)
