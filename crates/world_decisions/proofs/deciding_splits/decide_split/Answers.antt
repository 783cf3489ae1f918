-- Its package has a member or has none.
use Rattle.std.proofs.Common.{◌<◌, length, subst, sym}
use Rattle.world_members.specs.Members.{AreMembers}
use Rattle.world_queries.proofs.Questions.{asks_weaker, asks_still}
use Rattle.world_decisions.proofs.SplitDecided.{split_of_unknown}
use Rattle.world_decisions.proofs.deciding_splits.decide_split.Goals as goal

pub returns-in-None-clause-asks : goal.returns-in-None-clause-asks
returns-in-None-clause-asks g c =
    asks_still g.S.Store g.met.S.Store.shut_if_dirty g.met.S.Store.settled c.requires.rests
    (λ w count are knows new. split_of_unknown w c.args.request.now c.args.asked.now c.requires.asked new.new
    (c.in-None.ensures.dead w count (subst (λ ms. AreMembers g.S.Store ms count w) (sym c.as_slice.ensures.value)
    are)))

pub returns-in-Some-clause-asks : goal.returns-in-Some-clause-asks
returns-in-Some-clause-asks g c =
    asks_weaker g.S.Store _
    (λ decision w count are told knows new.
    let there : AreMembers g.S.Store c.as_slice.result.now count w =
    subst (λ ms. AreMembers g.S.Store ms count w) (sym c.as_slice.ensures.value) are in
    told knows (record {
      of_world = new.of_world;
      split = record {
        asked = c.requires.asked;
        uuid = c.fits.ensures;
        types = c.has_types.ensures;
        new = new.new;
        live = c.in-Some.ensures.live w count there;
      };
      place = c.in-Some.ensures.holds w count there;
    })) c.decide_at.ensures.asks

pub decide_at-requires-clause-within : goal.decide_at-requires-clause-within
decide_at-requires-clause-within g c = subst (λ ms. c.in-Some.at < length ms) c.as_slice.ensures.value
    c.in-Some.ensures.within
