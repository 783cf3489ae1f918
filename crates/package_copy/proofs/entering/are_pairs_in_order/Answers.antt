use Rattle.std.proofs.Common.{arith}
use Rattle.package_tables.specs.Shapes.{pair_key}
use Rattle.package_tables.specs.declared.rows.MappingRow.{MappingRow}
use Rattle.package_copy.proofs.Arriving.{rising}
use Rattle.package_copy.proofs.entering.are_pairs_in_order.Goals as goal

pub returns : goal.returns
returns c tested = rising (λ (x : MappingRow). pair_key x.base_id x.related_id) c.args.rows.now
    (λ k d less. c.loop-at.invariant k d (omega (arith, less, c.loop-at-test.false)))
