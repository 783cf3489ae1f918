-- One package more is searched.
use Rattle.std.proofs.Common.{inl, refl, subst, take}
use Rattle.std.specs.Prelude.{flat_map}
use Rattle.command_names.specs.Searching.{IsFound}
use Rattle.command_verbs.specs.declared.names.PackageEntry.{PackageEntry}
use Rattle.command_requests.proofs.Listed.{flat_more}
use Rattle.command_requests.proofs.Untouched.{stands_after, untouched_then}
use Rattle.command_searches.specs.Searches.{identities_under}
use Rattle.command_searches.proofs.searches.found_in_each.Goals as goal

pub returns-in_err-found-clause-read : goal.returns-in_err-found-clause-read
returns-in_err-found-clause-read g c =
    untouched_then g.S.Store c.args.world.now c.loop-entry.world c.found_in.new.world c.loop-entry.invariant.read
    c.in_err-found.ensures.read

pub loop-entry-preserved : goal.loop-entry-preserved
loop-entry-preserved g c = record {
  read = untouched_then g.S.Store c.args.world.now c.loop-entry.world c.found_in.new.world c.loop-entry.invariant.read
      c.in_ok-found.ensures.read;
  told = λ clean w stands.
      let before = c.in_ok-found.ensures.read.clean clean in
      let now = stands_after g.S.Store c.args.world.now c.loop-entry.world c.loop-entry.invariant.read w stands in
      let so_far = c.loop-entry.invariant.told before w stands in
      let ids = flat_map (λ (p : PackageEntry). identities_under w p.uuid)
      (take c.loop-entry.entry-index c.args.packages.now) in
      subst (λ all. IsFound c.args.word.now all c.in_ok-found.found)
      (flat_more (λ (p : PackageEntry). identities_under w p.uuid) c.args.packages.now c.loop-entry.entry-index
      c.entry-item.result
      ids (identities_under w c.entry-item.result.uuid) c.loop-entry-test.true c.entry-item.is refl refl)
      (c.in_ok-found.ensures.told clean w now ids so_far);
}

pub loop-entry-init : goal.loop-entry-init
loop-entry-init g c = record {
  read = inl refl;
  told = λ clean w stands. c.nothing-found.ensures c.args.word.now;
}
