-- The sort is stable.
use Rattle.std.proofs.Common.{rules}
use Rattle.std.proofs.lemmas.List.Sorted.{IsNonDecreasingBy-from_sort_by_key, answers_always}
use Rattle.sheet_balance.proofs.Sorting.{sorted_is}
use Rattle.sheet_balance.proofs.accounts.in_order.Goals as goal

pub returns : goal.returns
returns c =
    sorted_is (λ r. r.seq) c.args.receipts.items _ (IsNonDecreasingBy-from_sort_by_key (λ r. r.seq) _
    c.in_ok-sort_by_key.ensures.sorted (λ a r q k. search rules))
    (c.sort_by_key.ensures.stable (λ r. r.seq) (answers_always _ _ _ (λ f a r g h. search rules)))
