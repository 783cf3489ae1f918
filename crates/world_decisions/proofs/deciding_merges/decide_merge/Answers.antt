-- Its packages have members or have none.
use Rattle.std.proofs.Common.{sym, subst}
use Rattle.std.proofs.lemmas.Int.{to_z-of_z}
use Rattle.world_queries.specs.Asking.{StandsAt}
use Rattle.sheet_types.specs.Lines.{HasTypes}
use Rattle.sheet_types.specs.declared.command.Command.TheVariants.{Merge}
use Rattle.world_members.specs.Members.{AreMembers}
use Rattle.world_decisions.proofs.DecidedMerges.{decides_unknown, merge_placed}
use Rattle.world_queries.proofs.Questions.{asks_weaker, asks_still}
use Rattle.world_decisions.proofs.deciding_merges.decide_merge.Goals as goal

pub returns-in-None-clause-asks : goal.returns-in-None-clause-asks
returns-in-None-clause-asks g c =
    asks_still g.S.Store g.met.S.Store.shut_if_dirty g.met.S.Store.settled c.requires.rests
    (λ w n are counted new.
    decides_unknown w c.args.request.now c.args.child c.args.into c.args.ticket c.requires.merges new
    (c.in-None.ensures.none w n (subst (λ ms. AreMembers g.S.Store ms n w) (sym c.as_slice.ensures.value) are)))

pub decide_placed-requires-clause-from : goal.decide_placed-requires-clause-from
decide_placed-requires-clause-from g c = subst (λ ms. StandsAt g.S.Store ms c.args.child c.in-Some.from)
    c.as_slice.ensures.value c.in-Some.ensures.some.0

pub decide_placed-requires-clause-at : goal.decide_placed-requires-clause-at
decide_placed-requires-clause-at g c = subst (λ ms. StandsAt g.S.Store ms c.args.into c.in-Some.at)
    c.as_slice.ensures.value c.in-Some.ensures.some.1

pub returns-in-Some-clause-asks : goal.returns-in-Some-clause-asks
returns-in-Some-clause-asks g c =
    let types : HasTypes (Merge c.args.child c.args.into c.args.ticket) =
    simp (to_z-of_z, c.ranges.ticket) at c.has_types.ensures in
    asks_weaker g.S.Store _
    (λ decision w n are decides counted new.
    decides (merge_placed g.S.Store c.args.members.now.items c.args.child c.args.into c.in-Some.from c.in-Some.at
    (subst (λ ms. StandsAt g.S.Store ms c.args.child c.in-Some.from) c.as_slice.ensures.value c.in-Some.ensures.some.0)
    (subst (λ ms. StandsAt g.S.Store ms c.args.into c.in-Some.at) c.as_slice.ensures.value c.in-Some.ensures.some.1)
    c.args.count n c.args.request.now w c.args.ticket are counted new c.fits.ensures types c.requires.merges))
    c.decide_placed.ensures.asks
