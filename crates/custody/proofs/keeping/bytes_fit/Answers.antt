use Rattle.std.proofs.Common.{arith}
use Rattle.custody.proofs.Things.{fits}
use Rattle.custody.proofs.keeping.bytes_fit.Goals as goal

pub returns : goal.returns
returns g c = fits g.row.N c.args.bytes.now c.told-bytes (λ k less. c.loop-place.invariant k
    (omega (arith, less, c.loop-place-test.false)))
