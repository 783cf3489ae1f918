use Rattle.std.proofs.Common.{arith}
use Rattle.package_copy.proofs.Arriving.{rising}
use Rattle.package_copy.proofs.entering.are_in_order.Goals as goal

pub returns : goal.returns
returns g c tested = rising g.T.Entered.list.shape.key c.args.rows.now
    (λ k d less. c.loop-at.invariant k d (omega (arith, less, c.loop-at-test.false)))
