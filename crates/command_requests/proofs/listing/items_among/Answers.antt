-- One package more was asked, and its items are listed.
use Rattle.std.proofs.Common.{◌≡◌, ◌∙◌, ◌+◌, ap, is_ok, subst, sym, take}
use Rattle.std.specs.Prelude.{flat_map}
use Rattle.std.proofs.ResultArms.{chosen}
use Rattle.command_verbs.specs.declared.names.PackageEntry.{PackageEntry}
use Rattle.command_requests.specs.Listing.{items_under}
use Rattle.command_requests.proofs.Listed.{flat_more}
use Rattle.command_requests.proofs.Untouched.{stands_after, untouched_then}
use Rattle.command_requests.proofs.listing.items_among.Goals as goal

pub returns-in_err-more-clause-read : goal.returns-in_err-more-clause-read
returns-in_err-more-clause-read g c =
    untouched_then g.S.Store c.args.world.now c.loop-entry.world c.items_in.new.world c.loop-entry.invariant.read
    c.in_err-more.ensures.read

pub returns-in_err-extend_from_slice-clause-read : goal.returns-in_err-extend_from_slice-clause-read
returns-in_err-extend_from_slice-clause-read g c =
    untouched_then g.S.Store c.args.world.now c.loop-entry.world c.items_in.new.world c.loop-entry.invariant.read
    c.in_ok-more.ensures.read

pub loop-entry-preserved : goal.loop-entry-preserved
loop-entry-preserved g c = record {
  read = untouched_then g.S.Store c.args.world.now c.loop-entry.world c.items_in.new.world c.loop-entry.invariant.read
      c.in_ok-more.ensures.read;
  told = λ clean w stands.
      let before = c.in_ok-more.ensures.read.clean clean in
      let now = stands_after g.S.Store c.args.world.now c.loop-entry.world c.loop-entry.invariant.read w stands in
      let so_far = c.loop-entry.invariant.told before w stands in
      let here = c.in_ok-more.ensures.told clean w now in
      let more = flat_more (λ (p : PackageEntry). items_under w p.uuid) c.args.packages.now c.loop-entry.entry-index
      c.entry-item.result
      c.loop-entry.entries.items c.deref.result.now c.loop-entry-test.true c.entry-item.is so_far
      (c.deref.ensures.value ∙ here) in
      subst (λ es. es ≡ flat_map (λ (p : PackageEntry). items_under w p.uuid)
      (take (c.loop-entry.entry-index + 1) c.args.packages.now))
      (sym (chosen _ _ _ _ c.extend_from_slice.ensures.items (ap is_ok c.in_ok-extend_from_slice.was))) more;
}
