use Rattle.std.proofs.Common.{subst}
use Rattle.std.specs.List.{IsDistinct}
use Rattle.package_items.proofs.Keys.{numbers_apart}
use Rattle.package_items.proofs.unique.see_pairs.Goals as goal

pub returns-then-branch : goal.returns-then-branch
returns-then-branch c = numbers_apart (λ r. r.base_id) (λ r. r.related_id) c.args.pairs.now
    (subst (IsDistinct _) c.in_ok-ends.ensures (c.in_ok-are_apart.ensures c.if-branch.true))
