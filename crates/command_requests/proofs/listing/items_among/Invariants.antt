-- The items of the packages so far are listed.
use Rattle.std.proofs.Common.{◌≡◌, take}
use Rattle.std.specs.Prelude.{flat_map}
use Rattle.sheet_types.specs.World.{World}
use Rattle.world_members.specs.Members.{AllClean}
use Rattle.world.specs.Worlds.{StandsFor}
use Rattle.command_requests.specs.Listing.{IsUntouched, items_under}
use Rattle.command_requests.proofs.listing.items_among.Given as goal

abbrev pub invariant-loop-entry : goal.invariant-loop-entry
invariant-loop-entry g l = record {
  read : IsUntouched g.S.Store l.fn.world l.world;
  told : AllClean g.S.Store l.world.members → (w : World) → StandsFor g.S.Store l.fn.world w
      → l.entries.items ≡ flat_map (λ p. items_under w p.uuid) (take l.entry-index l.packages);
}
