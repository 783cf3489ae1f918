use Rattle.std.proofs.Common.{pos, to_z-of_z}
use Rattle.package_tables.specs.Changes.{DropsTile, DropsMedium, DropsAttribute}
use Rattle.identity_register.proofs.Dropping.{content_steps, compared}
use Rattle.identity_register.proofs.changes.drop_content.Goals as goal

pub returns-then-kind-eq-TILE-clause-steps : goal.returns-then-kind-eq-TILE-clause-steps
returns-then-kind-eq-TILE-clause-steps g c =
    content_steps (DropsTile c.args.number) c.args.kind (pos 1) c.args.number
    (compared c.args.kind 1 c.ranges.kind c.if-kind-eq-TILE.true) (λ a b h. h)
    (simp (to_z-of_z, c.ranges.number) at c.delete_tile.ensures.wrote) c.delete_tile.ensures.survives

pub returns-then-kind-eq-MEDIUM-clause-steps : goal.returns-then-kind-eq-MEDIUM-clause-steps
returns-then-kind-eq-MEDIUM-clause-steps g c =
    content_steps (DropsMedium c.args.number) c.args.kind (pos 2) c.args.number
    (compared c.args.kind 2 c.ranges.kind c.if-kind-eq-MEDIUM.true) (λ a b h. h)
    (simp (to_z-of_z, c.ranges.number) at c.delete_medium.ensures.wrote) c.delete_medium.ensures.survives

pub returns-then-kind-eq-ROW-clause-steps : goal.returns-then-kind-eq-ROW-clause-steps
returns-then-kind-eq-ROW-clause-steps g c =
    content_steps (DropsAttribute c.args.number) c.args.kind (pos 3) c.args.number
    (compared c.args.kind 3 c.ranges.kind c.if-kind-eq-ROW.true) (λ a b h. h)
    (simp (to_z-of_z, c.ranges.number) at c.delete_attribute.ensures.wrote) c.delete_attribute.ensures.survives
