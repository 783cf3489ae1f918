-- Its package has a member or has none.
use Rattle.std.proofs.Common.{◌≡◌, ◌<◌, length, subst, sym, Some, false, true, slice_get}
use Rattle.sheet_types.specs.World.{is_live, holdings}
use Rattle.world_members.specs.Members.{AreMembers}
use Rattle.world_decisions.proofs.Decided.{decides_unknown}
use Rattle.world_queries.proofs.Questions.{asks_weaker, asks_still}
use Rattle.world_decisions.proofs.deciding.decide_change.Goals as goal

pub returns-in-None-clause-asks : goal.returns-in-None-clause-asks
returns-in-None-clause-asks g c =
    asks_still g.S.Store g.met.S.Store.shut_if_dirty g.met.S.Store.settled c.requires.rests
    (λ w count are knows is.
    let dead : is_live w c.package_of.result ≡ false = c.in-None.ensures.dead w count
    (subst (λ ms. AreMembers g.S.Store ms count w) (sym c.as_slice.ensures.value) are) in
    decides_unknown c.args.frame.now c.args.count c.args.request.now w is.asked is.new
    (subst (λ p. is_live w p ≡ false) c.package_of.ensures dead))

pub returns-in-Some-clause-asks : goal.returns-in-Some-clause-asks
returns-in-Some-clause-asks g c =
    asks_weaker g.S.Store _
    (λ decision w count are told knows is.
    let there : AreMembers g.S.Store c.as_slice.result.now count w =
    subst (λ ms. AreMembers g.S.Store ms count w) (sym c.as_slice.ensures.value) are in
    told knows (record {
      asked = is.asked;
      new = is.new;
      live = subst (λ p. is_live w p ≡ true) c.package_of.ensures (c.in-Some.ensures.live w count there);
      place = subst (λ p. slice_get w.packages c.in-Some.at ≡ Some (holdings w p)) c.package_of.ensures
          (c.in-Some.ensures.holds w count there);
    })) c.decide_at.ensures.asks

pub decide_at-requires-clause-within : goal.decide_at-requires-clause-within
decide_at-requires-clause-within g c = subst (λ ms. c.in-Some.at < length ms) c.as_slice.ensures.value
    c.in-Some.ensures.within
