-- The contents, in their order.
use Rattle.std.proofs.Common.{Bor, map, subst, rules, is_lt}
use Rattle.std.specs.Prelude.{IsPermutation}
use Rattle.std.specs.Ordering.{nat_cmp}
use Rattle.std.specs.Cmp.Lexicographic.{nat_list_cmp_total, slice_cmp}
use Rattle.std.proofs.lemmas.List.Sorted.{IsPermutation-map, answers_always, ranks_by}
use Rattle.sheet_types.specs.declared.command.Content.{Content}
use Rattle.field_changes.specs.Sharing.{shared_key}
use Rattle.field_changes.proofs.known.Known.of.Goals as goal

pub returns : goal.returns
returns c =
    let now : Bor Content → Content = λ b. b.now in
    let sorted = c.sort_unstable_by.new.self.items in
    subst (λ l. IsPermutation l (map now sorted)) c.in_ok-contents.ensures
    (IsPermutation-map now c.in_ok-contents.contents.items sorted c.sort_unstable_by.ensures.permutation)

pub invariant_of-result : goal.invariant_of-result
invariant_of-result c = c.sort_unstable_by.ensures.sorted
    (λ x y. is_lt (slice_cmp nat_cmp (shared_key x) (shared_key y))) (ranks_by nat_list_cmp_total shared_key)
    (answers_always _ _ _ (λ f a r g h. search rules))
