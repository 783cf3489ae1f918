-- Those that live are no more than there are.
use Rattle.std.proofs.Common.{◌≡◌, ◌∙◌, ap, subst, length, arith, inr}
use Rattle.std.specs.List.{AllZip}
use Rattle.opening_live.specs.Chosen.{live_flags, live_packages}
use Rattle.opening_live.proofs.Flags.{flagged_fewer}
use Rattle.command_folder.proofs.choosing.choose.Goals as goal

pub returns : goal.returns
returns g c =
    let packages = c.args.packages.items in
    let sights = c.in-Some.sights.items in
    let seen = rw c.in-Some.is at c.in_ok-sights.ensures in
    let shown : AllZip g.G.Glances.shown packages sights = subst (λ ps. AllZip g.G.Glances.shown ps sights)
    c.deref.ensures.value seen in
    let live : c.in_ok-live.live.items ≡ live_packages sights packages =
    c.in_ok-live.ensures ∙ ap (live_packages sights) c.deref-2.ensures.value in
    let fewer = flagged_fewer (live_flags sights) packages in
    let same = ap length live in
    inr (
      sights,
      shown,
      live,
      omega (
        arith,
        fewer,
        same,
        c.args.packages.ok.0,
        c.in_ok-live.live.ok.0,
        c.len-2.ensures,
        c.len-3.ensures,
        c.saturating_sub-left.ensures,
      ),
    )
