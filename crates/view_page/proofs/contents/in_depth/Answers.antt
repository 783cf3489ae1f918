-- The sort is stable.
use Rattle.std.proofs.Common.{◌≡◌, ◌∙◌, ap, map, rules}
use Rattle.std.proofs.lemmas.List.Sorted.{IsNonDecreasingBy-from_sort_by_key, answers_always}
use Rattle.sheet_balance.proofs.Sorting.{sorted_is}
use Rattle.view_page.proofs.Holding.{sorted_sights}
use Rattle.view_page.specs.Registers.{by_depth}
use Rattle.world.specs.Reading.{sight_of}
use Rattle.view_page.proofs.contents.in_depth.Goals as goal

pub returns : goal.returns
returns c =
    let sorted = sorted_is (λ s. s.depth) c.in_ok-ordered.ordered.items _
    (IsNonDecreasingBy-from_sort_by_key (λ s. s.depth) _ c.in_ok-sort_by_key.ensures.sorted
    (λ a s q k. search rules))
    (c.sort_by_key.ensures.stable (λ s. s.depth) (answers_always _ _ _ (λ f a s g h. search rules))) in
    ap (map sight_of) sorted ∙ sorted_sights c.in_ok-ordered.ordered.items
    ∙ ap (λ l. by_depth (map sight_of l)) c.in_ok-ordered.ensures.items
