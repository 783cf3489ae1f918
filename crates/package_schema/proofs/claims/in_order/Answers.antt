-- The sort is stable.
use Rattle.std.proofs.Common.{rules}
use Rattle.std.specs.Prelude.{unsigned_abs}
use Rattle.std.proofs.lemmas.List.Sorted.{IsNonDecreasingBy-from_sort_by_key, answers_always}
use Rattle.sheet_balance.proofs.Sorting.{sorted_is}
use Rattle.package_schema.proofs.claims.in_order.Goals as goal

pub returns : goal.returns
returns c =
    sorted_is (λ r. unsigned_abs r.seq) c.args.claims.items _
    (IsNonDecreasingBy-from_sort_by_key (λ r. unsigned_abs r.seq) _ c.in_ok-sort_by_key.ensures.sorted
    (λ a r q k. search rules))
    (c.sort_by_key.ensures.stable (λ r. unsigned_abs r.seq) (answers_always _ _ _ (λ f a r g h. search rules)))
