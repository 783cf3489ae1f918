-- One package more was asked, and does not hold it.
use Rattle.command_requests.proofs.Untouched.{stands_after, untouched_then}
use Rattle.command_verbs.specs.declared.names.PackageEntry.{PackageEntry}
use Rattle.command_drops.specs.Holding.{IsNotHeld}
use Rattle.command_drops.proofs.Held.{none_more}
use Rattle.command_drops.proofs.holding.held_among.Goals as goal

pub returns-in_err-links-clause-read : goal.returns-in_err-links-clause-read
returns-in_err-links-clause-read g c =
    untouched_then g.S.Store c.args.world.now c.loop-entry.world c.links_in.new.world c.loop-entry.invariant.read
    c.in_err-links.ensures.read

pub returns-in-Some-clause-read : goal.returns-in-Some-clause-read
returns-in-Some-clause-read g c =
    untouched_then g.S.Store c.args.world.now c.loop-entry.world c.links_in.new.world c.loop-entry.invariant.read
    c.in_ok-links.ensures.read

pub loop-entry-preserved : goal.loop-entry-preserved
loop-entry-preserved g c = record {
  read = untouched_then g.S.Store c.args.world.now c.loop-entry.world c.links_in.new.world c.loop-entry.invariant.read
      c.in_ok-links.ensures.read;
  none = λ clean w stands.
      let before = c.in_ok-links.ensures.read.clean clean in
      let now = stands_after g.S.Store c.args.world.now c.loop-entry.world c.loop-entry.invariant.read w stands in
      let so_far = c.loop-entry.invariant.none before w stands in
      let here : IsNotHeld w c.args.id c.entry-item.result.uuid =
      rw c.in_default.is at (c.in_ok-links.ensures.told clean w now) in
      none_more (λ (p : PackageEntry). IsNotHeld w c.args.id p.uuid) c.args.packages.now c.loop-entry.entry-index
      c.entry-item.result
      c.loop-entry-test.true c.entry-item.is so_far here;
}
