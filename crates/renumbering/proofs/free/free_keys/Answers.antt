use Rattle.std.proofs.Common.{arith, ◌<◌, length}
use Rattle.renumbering.proofs.Choosing.{too_few}
use Rattle.renumbering.proofs.free.free_keys.Goals as goal

pub returns-then-len-n-clause-too_many : goal.returns-then-len-n-clause-too_many
returns-then-len-n-clause-too_many c is =
    let few : length c.in-Ok.keys.items < c.args.n = omega (
      arith,
      c.len.ensures,
      c.if-len-n.true,
      c.in-Ok.ensures.most,
    ) in
    too_few c.args.used.now c.in-Ok.keys.items c.args.n few (c.in-Ok.ensures.all few)
