-- All three parts are in range, or one is not.
use Rattle.std.proofs.Common.{rules}
use Rattle.package_items.proofs.Ranging.{identity_decides}
use Rattle.package_items.proofs.ranges.is_identity_in_range.Goals as goal

pub returns : goal.returns
returns c = identity_decides c.args.row.now c.is_kind-kind.result c.is_local-number.result c.is_uuid_text-uuid.result
    (search rules) (search rules) (search rules)
