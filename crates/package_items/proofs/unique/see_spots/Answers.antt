use Rattle.std.proofs.Common.{subst}
use Rattle.std.specs.List.{IsDistinct}
use Rattle.package_items.proofs.Keys.{three_apart}
use Rattle.package_items.proofs.unique.see_spots.Goals as goal

pub returns-then-branch : goal.returns-then-branch
returns-then-branch c = three_apart (λ s. s.zoom) (λ s. s.column) (λ s. s.row) c.args.spots.now
    (subst (IsDistinct _) c.in_ok-places.ensures (c.in_ok-are_apart.ensures c.if-branch.true))
