-- Each member is looked at until one is past the limits.
use Rattle.std.proofs.Common.{◌≡◌, ◌≤◌, ◌∙◌, refl, sym, subst, map, length, false}
use Rattle.std.specs.List.{list_any}
use Rattle.std.proofs.lemmas.List.{take_all, length-map, length-set}
use Rattle.std.proofs.lemmas.Map.Keys.{any_passes_from_place}
use Rattle.world_members.specs.Steps.{is_past_limits}
use Rattle.world_queries.specs.TooMany.{sums_with}
use Rattle.world_members.specs.declared.members.Member.{Member}
use Rattle.world_queries.proofs.Placed.{none_more}
use Rattle.world_queries.proofs.too_many.any_past_limits.Goals as goal

pub loop-place-init : goal.loop-place-init
loop-place-init g c = record { none = refl }

pub returns-then-is_past_limits : goal.returns-then-is_past_limits
returns-then-is_past_limits g c =
    sym (any_passes_from_place is_past_limits (sums_with c.args.members.now c.args.at c.args.sums) c.loop-place.place
    c.sums_at.result c.sums_at.ensures (sym c.is_past_limits.ensures ∙ c.if-is_past_limits.true))

pub loop-place-preserved : goal.loop-place-preserved
loop-place-preserved g c = record {
  none = none_more is_past_limits (sums_with c.args.members.now c.args.at c.args.sums) c.loop-place.place
      c.sums_at.result c.loop-place.invariant.none c.sums_at.ensures
      (sym c.is_past_limits.ensures ∙ c.if-is_past_limits.false);
}

pub returns : goal.returns
returns g c =
    let long : length (sums_with c.args.members.now c.args.at c.args.sums) ≡ length c.args.members.now =
    length-set (map (λ (m : Member g.row.S.Denot). m.sums) c.args.members.now) c.args.at c.args.sums
    ∙ length-map c.args.members.now (λ (m : Member g.row.S.Denot). m.sums) in
    let past : length (sums_with c.args.members.now c.args.at c.args.sums) ≤ c.loop-place.place =
    subst (λ n. n ≤ c.loop-place.place) (sym long) c.loop-place-test.false in
    sym (subst (λ xs. list_any is_past_limits xs ≡ false) (take_all c.loop-place.place
    (sums_with c.args.members.now c.args.at c.args.sums) past) c.loop-place.invariant.none)
