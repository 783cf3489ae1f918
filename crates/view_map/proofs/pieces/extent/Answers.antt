use Rattle.std.proofs.Common.{arith}
use Rattle.view_map.proofs.Bounds.{product_below}
use Rattle.view_map.proofs.pieces.extent.Goals as goal

pub overflow_mul-result : goal.overflow_mul-result
overflow_mul-result c = omega (
  arith,
  product_below c.args.places c.args.most c.args.size 48000000000000
      c.requires.few c.requires.fits,
)

pub returns-clause-bound : goal.returns-clause-bound
returns-clause-bound c = product_below c.args.places c.args.most c.args.size 48000000000000 c.requires.few
    c.requires.fits
