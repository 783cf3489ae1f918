use Rattle.std.proofs.Common.{◌≤◌, length, arith}
use Rattle.command_folder.proofs.ReadBodies.{read_whole}
use Rattle.command_folder.proofs.bodies.read_body.Goals as goal

pub returns-clause-bytes : goal.returns-clause-bytes
returns-clause-bytes g c =
    let low : length c.in_ok-body.body.items ≤ 2200000 = omega (arith, c.len.ensures, c.if-len-gt-MOST_BODY.false) in
    read_whole 2200000 (g.R.Read.remaining c.args.reader) c.in_ok-body.body.items low c.in_ok-body.ensures.bytes

pub returns-clause-most : goal.returns-clause-most
returns-clause-most g c = omega (arith, c.len.ensures, c.if-len-gt-MOST_BODY.false)
