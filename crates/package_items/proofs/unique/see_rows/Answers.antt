use Rattle.std.proofs.Common.{subst}
use Rattle.std.specs.List.{IsDistinct}
use Rattle.package_items.proofs.Keys.{numbers_apart, texts_apart, first_true, second_true}
use Rattle.package_items.proofs.unique.see_rows.Goals as goal

pub returns-then-branch-clause-numbers : goal.returns-then-branch-clause-numbers
returns-then-branch-clause-numbers c = numbers_apart (λ r. r.kind) (λ r. r.local_id) c.args.rows.now
    (subst (IsDistinct _) c.in_ok-numbers.ensures (c.in_ok-are_apart.ensures (first_true _ _ c.if-branch.true)))

pub returns-then-branch-clause-uuids : goal.returns-then-branch-clause-uuids
returns-then-branch-clause-uuids c = texts_apart (λ r. r.uuid) (λ k. k.now) c.in_ok-uuids.uuids.items c.args.rows.now
    c.in_ok-uuids.ensures (c.in_ok-are_apart-2.ensures (second_true _ _ c.if-branch.true))
