-- The members tell whether it leaves too many, as the sums after it are counted or not.
use Rattle.std.proofs.Common.{◌≡◌, ◌∙◌, refl, sym, ap, Some, slice_get}
use Rattle.std.proofs.lemmas.Option.{slice_get_read}
use Rattle.world_members.specs.Steps.{sums_moved}
use Rattle.world_members.specs.declared.members.Member.{Member}
use Rattle.world_decisions.proofs.DecidedMerges.{weighed_over, weighed_due, one_more_within}
use Rattle.world_decisions.proofs.deciding_merges.decide_by_sums.Goals as goal

pub returns-in-None-clause-decides : goal.returns-in-None-clause-decides
returns-in-None-clause-decides g c = λ w q are is before made selected.
    let place : slice_get c.args.members.now c.args.at ≡ Some c.index-members-at.result =
    slice_get_read _ _ _ _ refl c.requires.within c.index-members-at.is in
    weighed_over g.S.Store c.args.members.now c.args.count c.args.from c.args.at q w c.index-members-at.result are is
    before place _ _
    (c.sums_moved-moved.ensures ∙ ap sums_moved made) (ap (λ (m : Member g.row.S.Denot). m.sums)
    (sym c.index-members-at.is)) c.in-None.ensures

pub returns-in-Some-clause-decides : goal.returns-in-Some-clause-decides
returns-in-Some-clause-decides g c = λ w q are is before made selected.
    let place : slice_get c.args.members.now c.args.at ≡ Some c.index-members-at.result =
    slice_get_read _ _ _ _ refl c.requires.within c.index-members-at.is in
    weighed_due g.S.Store c.args.members.now c.args.count c.args.from c.args.at q w c.index-members-at.result are is
    before place _ _ c.in-Some.sums c.args.selection c.args.receipt
    (c.sums_moved-moved.ensures ∙ ap sums_moved made) (ap (λ (m : Member g.row.S.Denot). m.sums)
    (sym c.index-members-at.is)) c.in-Some.ensures.1 c.in-Some.ensures.0.1 made selected

pub returns-in-Some-clause-place : goal.returns-in-Some-clause-place
returns-in-Some-clause-place g c = record {
  from = c.requires.from;
  into = c.requires.within;
  two = c.requires.two;
  number = c.requires.number;
  counted = one_more_within c.args.members.now c.args.at _ c.args.count
      c.in-Some.ensures.0.1;
}
