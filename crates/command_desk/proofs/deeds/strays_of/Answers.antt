-- As many packages are listed as live.
use Rattle.std.proofs.Common.{◌≡◌, ◌∙◌, ◌-◌, ap, length, arith}
use Rattle.view_world.proofs.Rows.{long_seen}
use Rattle.command_desk.proofs.deeds.strays_of.Goals as goal

pub returns : goal.returns
returns g c = λ w stands.
    let long : length c.in_ok-sights.sights.items ≡ length w.packages =
    long_seen w c.in_ok-sights.sights.items (c.in_ok-sights.ensures w stands) in
    let counted : c.len.result ≡ length w.packages =
    omega (arith, long, c.len.ensures, c.in_ok-sights.sights.ok.0) in
    c.saturating_sub.ensures ∙ ap (λ n. c.args.files - n) counted
