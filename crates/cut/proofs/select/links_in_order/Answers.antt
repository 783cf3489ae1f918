-- Sorted links of which each stands before the next, once each.
use Rattle.std.proofs.Common.{rules, ◌≡◌, ◌∙◌, sym, subst, ap, true}
use Rattle.std.proofs.lemmas.List.Filters.{dedup_is}
use Rattle.std.proofs.lemmas.List.Sorted.{answers_always, list_any-IsPermutation}
use Rattle.sheet_types.specs.Ordered.{IsArranged, is_before}
use Rattle.sheet_types.specs.World.{link_key}
use Rattle.sheet_types.specs.contracts.command.RelationPartialEq.TheImpl.{ghosts}
use Rattle.sheet_types.specs.declared.command.Relation.{Relation}
use Rattle.std.specs.List.{list_any}
use Rattle.cut.proofs.Alike.{rising, any-dedup}
use Rattle.cut.proofs.select.links_in_order.Goals as goal

same_link : (x y : Relation) → ghosts.eq x y ≡ true → x ≡ y
same_link x y e = search rules

pub returns-then-is_sorted_by-clause-order : goal.returns-then-is_sorted_by-clause-order
returns-then-is_sorted_by-clause-order c =
    let answer = c.if-is_sorted_by.ensures.cases (λ x y. is_before (link_key x) (link_key y))
    (answers_always _ _ _ (λ f a r g h. search rules)) in
    subst (IsArranged link_key) c.deref.ensures.value (rising link_key c.deref.result.now
    (λ k d less. sym (answer k d less)))

pub returns-then-is_sorted_by-clause-same : goal.returns-then-is_sorted_by-clause-same
returns-then-is_sorted_by-clause-same c t =
    let made = dedup_is _ c.sort_unstable_by_key.new.self.items c.dedup.new.self.items c.dedup.ensures.filtered in
    ap (list_any t) made ∙ any-dedup _ (λ x y e. same_link x y e) t c.sort_unstable_by_key.new.self.items
    ∙ sym (list_any-IsPermutation t c.args.links.items c.sort_unstable_by_key.new.self.items
    c.sort_unstable_by_key.ensures.permutation)
