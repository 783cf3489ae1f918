use Rattle.std.proofs.Common.{◌≡◌, refl, sym, ap, subst, ◌∙◌}
use Rattle.std.specs.Ordering.{int_cmp, int_eq}
use Rattle.std.proofs.lemmas.Cmp.{int_cmp_total}
use Rattle.std.proofs.lemmas.List.Filters.{dedup_is}
use Rattle.std.proofs.lemmas.List.Kept.{IsStrictlySortedBy-dedup}
use Rattle.std.specs.List.Sorted.{IsStrictlySortedBy}
use Rattle.renumbering.proofs.Rising.{same_keys}
use Rattle.renumbering.proofs.free.distinct.Goals as goal

pub returns-clause-order : goal.returns-clause-order
returns-clause-order c =
    subst (IsStrictlySortedBy int_cmp) (sym (dedup_is int_eq _ _ c.dedup.ensures.filtered))
    (IsStrictlySortedBy-dedup int_cmp_total (λ x y. refl) _ c.sort_unstable.ensures.sorted)

pub returns-clause-same : goal.returns-clause-same
returns-clause-same c = same_keys _ _ _ _ (c.in_ok-sorted.ensures.items_if_clones_equal (λ x y e. e))
    c.sort_unstable.ensures.permutation (dedup_is int_eq _ _ c.dedup.ensures.filtered)
