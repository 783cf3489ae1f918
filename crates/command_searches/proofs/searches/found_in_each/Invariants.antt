-- The packages so far are searched.
use Rattle.std.proofs.Common.{take}
use Rattle.std.specs.Prelude.{flat_map}
use Rattle.sheet_types.specs.World.{World}
use Rattle.world_members.specs.Members.{AllClean}
use Rattle.world.specs.Worlds.{StandsFor}
use Rattle.command_names.specs.Searching.{IsFound}
use Rattle.command_requests.specs.Listing.{IsUntouched}
use Rattle.command_searches.specs.Searches.{identities_under}
use Rattle.command_searches.proofs.searches.found_in_each.Given as goal

abbrev pub invariant-loop-entry : goal.invariant-loop-entry
invariant-loop-entry g l = record {
  read : IsUntouched g.S.Store l.fn.world l.world;
  told : AllClean g.S.Store l.world.members → (w : World) → StandsFor g.S.Store l.fn.world w
      → IsFound l.word (flat_map (λ p. identities_under w p.uuid) (take l.entry-index l.packages)) l.found;
}
