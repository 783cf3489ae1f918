-- None of the packages so far holds it.
use Rattle.std.proofs.Common.{take}
use Rattle.std.specs.List.{AllByRecursion}
use Rattle.sheet_types.specs.World.{World}
use Rattle.world_members.specs.Members.{AllClean}
use Rattle.world.specs.Worlds.{StandsFor}
use Rattle.command_requests.specs.Listing.{IsUntouched}
use Rattle.command_verbs.specs.declared.names.PackageEntry.{PackageEntry}
use Rattle.command_drops.specs.Holding.{IsNotHeld}
use Rattle.command_drops.proofs.holding.held_among.Given as goal

abbrev pub invariant-loop-entry : goal.invariant-loop-entry
invariant-loop-entry g l = record {
  read : IsUntouched g.S.Store l.fn.world l.world;
  none : AllClean g.S.Store l.world.members → (w : World) → StandsFor g.S.Store l.fn.world w
      → AllByRecursion (λ (p : PackageEntry). IsNotHeld w l.id p.uuid) (take l.entry-index l.packages);
}
