use Rattle.std.proofs.Common.{◌≡◌, length, arith}
use Rattle.view_world.proofs.Rows.{long_seen}
use Rattle.view_world.proofs.usable.count_of.Goals as goal

pub returns : goal.returns
returns g c = λ w stands.
    let long : length c.in_ok-sights.sights.items ≡ length w.packages =
    long_seen w c.in_ok-sights.sights.items (c.in_ok-sights.ensures w stands) in
    omega (arith, long, c.len.ensures, c.in_ok-sights.sights.ok.0)
