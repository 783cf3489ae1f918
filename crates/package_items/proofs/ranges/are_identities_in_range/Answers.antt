-- One row more is in its ranges.
use Rattle.std.proofs.Common.{subst}
use Rattle.package_items.specs.Ranges.{IsIdentityInRange}
use Rattle.package_items.proofs.Deciding.{each_yes}
use Rattle.package_items.proofs.ranges.are_identities_in_range.Goals as goal

pub loop-row-preserved : goal.loop-row-preserved
loop-row-preserved c = each_yes IsIdentityInRange c.args.rows.now c.loop-row.row-index c.row-item.result
    c.loop-row-test.true (subst IsIdentityInRange c.row-item.is c.if-not-is_identity_in_range.ensures)
    c.loop-row.invariant
