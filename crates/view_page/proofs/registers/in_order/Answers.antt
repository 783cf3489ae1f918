-- The sort is stable.
use Rattle.std.proofs.Common.{rules}
use Rattle.std.proofs.lemmas.List.Sorted.{IsNonDecreasingBy-from_sort_by_key, answers_always}
use Rattle.sheet_balance.proofs.Sorting.{sorted_is}
use Rattle.view_page.proofs.registers.in_order.Goals as goal

pub returns : goal.returns
returns c =
    sorted_is (λ l. l.loan) c.args.lives.items _ (IsNonDecreasingBy-from_sort_by_key (λ l. l.loan) _
    c.in_ok-sort_by_key.ensures.sorted (λ a l q k. search rules))
    (c.sort_by_key.ensures.stable (λ l. l.loan) (answers_always _ _ _ (λ f a l g h. search rules)))
