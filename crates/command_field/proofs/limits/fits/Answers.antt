-- More than the most; or no more than is left.
use Rattle.std.proofs.Common.{◌<◌, ◌+◌, sym, arith}
use Rattle.std.proofs.lemmas.Bool.{lt-leb}
use Rattle.world.proofs.Room.{left_of}
use Rattle.command_field.proofs.limits.fits.Goals as goal

pub returns-then-some-most : goal.returns-then-some-most
returns-then-some-most c =
    let past : c.args.most < c.args.some = c.if-some-most.true in
    let over : c.args.most < c.args.some + c.args.others = omega (arith, past) in
    sym (lt-leb (c.args.some + c.args.others) c.args.most over)

pub returns : goal.returns
returns c = left_of c.args.some c.args.others c.args.most c.if-some-most.false
