-- The first member that is lent from the package is found, where there is one.
use Rattle.std.proofs.Common.{◌≡◌, ◌∙◌, refl, sym, ap, subst, slice_get, Some, false}
use Rattle.std.specs.Prelude.{option_map}
use Rattle.std.specs.List.{list_any}
use Rattle.std.proofs.lemmas.List.{take_all}
use Rattle.std.proofs.lemmas.Option.{slice_get_read}
use Rattle.sheet_types.specs.Custody.{ends_at}
use Rattle.sheet_types.proofs.Found.{not_found}
use Rattle.world_members.specs.declared.members.Member.{Member}
use Rattle.world_decisions.proofs.KeptMerges.{none_before}
use Rattle.world_queries.proofs.Placed.{none_more}
use Rattle.world_decisions.proofs.deciding_merges.loan_of.Goals as goal

pub returns-then-is_lent_from : goal.returns-then-is_lent_from
returns-then-is_lent_from g c =
    let place : slice_get c.args.members.now c.loop-at.at ≡ Some c.index-members-at.result =
    slice_get_read _ _ _ _ refl c.loop-at-test.true c.index-members-at.is in
    let same : ends_at c.index-members-at.result.parent c.args.child ≡ c.is_lent_from.result =
    sym c.is_lent_from.ensures in
    ap (option_map (λ (m : Member g.row.S.Denot). m.uuid)) (sym
    (none_before (λ (m : Member g.row.S.Denot). ends_at m.parent c.args.child) c.args.members.now c.loop-at.at
    c.index-members-at.result c.loop-at.invariant.none place (same ∙ c.if-is_lent_from.true)))

pub loop-at-preserved : goal.loop-at-preserved
loop-at-preserved g c =
    let place : slice_get c.args.members.now c.loop-at.at ≡ Some c.index-members-at.result =
    slice_get_read _ _ _ _ refl c.loop-at-test.true c.index-members-at.is in
    let same : ends_at c.index-members-at.result.parent c.args.child ≡ c.is_lent_from.result =
    sym c.is_lent_from.ensures in
    record {
      none = none_more (λ (m : Member g.row.S.Denot). ends_at m.parent c.args.child) c.args.members.now
          c.loop-at.at c.index-members-at.result c.loop-at.invariant.none place (same ∙ c.if-is_lent_from.false);
    }

pub returns : goal.returns
returns g c =
    ap (option_map (λ (m : Member g.row.S.Denot). m.uuid))
    (sym (not_found (λ (m : Member g.row.S.Denot). ends_at m.parent c.args.child) c.args.members.now
    (subst (λ ms. list_any (λ (m : Member g.row.S.Denot). ends_at m.parent c.args.child) ms ≡ false)
    (take_all c.loop-at.at c.args.members.now c.loop-at-test.false) c.loop-at.invariant.none)))
