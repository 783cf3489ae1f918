-- What is kept is looked at, and then what is held.
use Rattle.std.proofs.Common.{◌≡◌, ◌<◌, ◌∙◌, sym, subst, length}
use Rattle.std.proofs.lemmas.Int.{to_z-of_z}
use Rattle.world_members.specs.Members.{AreMembers}
use Rattle.world_decisions.proofs.DecidedMerges.{decides_by_kept, stand_apart}
use Rattle.world_queries.proofs.Questions.{asks_weaker, asks_still}
use Rattle.world_decisions.proofs.deciding_merges.decide_placed.Goals as goal

pub kept_refusal-requires : goal.kept_refusal-requires
kept_refusal-requires g c = record {
  within = subst (λ ms. c.args.from < length ms) (sym c.as_slice.ensures.value)
      c.requires.from.within;
}

pub returns-in-Some-clause-asks : goal.returns-in-Some-clause-asks
returns-in-Some-clause-asks g c =
    let told = simp (to_z-of_z, c.ranges.ticket) at c.kept_refusal.ensures.told in
    asks_still g.S.Store g.met.S.Store.shut_if_dirty g.met.S.Store.settled c.requires.rests
    (λ w n are is.
    let now : AreMembers g.S.Store c.as_slice.result.now n w =
    subst (λ ms. AreMembers g.S.Store ms n w) (sym c.as_slice.ensures.value) are in
    decides_by_kept c.args.count c.args.from c.args.at c.args.request.now w c.in-Some.why is
    (sym (told w n now (c.requires.from.live w n are) (c.requires.from.holds w n are) c.requires.merges)
    ∙ c.in-Some.is))

pub decide_read-requires-clause-two : goal.decide_read-requires-clause-two
decide_read-requires-clause-two g c = stand_apart g.S.Store c.args.members.now.items c.args.child c.args.into
    c.args.from c.args.at c.requires.from c.requires.at (c.in-None.ensures.apart)

pub returns-in-None-clause-asks : goal.returns-in-None-clause-asks
returns-in-None-clause-asks g c =
    let told = simp (to_z-of_z, c.ranges.ticket) at c.kept_refusal.ensures.told in
    asks_weaker g.S.Store _
    (λ decision w n are decides is.
    let now : AreMembers g.S.Store c.as_slice.result.now n w =
    subst (λ ms. AreMembers g.S.Store ms n w) (sym c.as_slice.ensures.value) are in
    decides is (sym (told w n now (c.requires.from.live w n are) (c.requires.from.holds w n are) c.requires.merges)
    ∙ c.in-None.is)) c.decide_read.ensures.asks
