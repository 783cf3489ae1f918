-- Those so far are new.
use Rattle.std.proofs.Common.{take}
use Rattle.std.specs.List.{AllByRecursion}
use Rattle.sheet_types.specs.World.{World}
use Rattle.world_members.specs.Members.{AllClean}
use Rattle.world.specs.Worlds.{StandsFor}
use Rattle.command_requests.specs.Listing.{IsUntouched}
use Rattle.command_field.specs.Freedom.{IsNewIn}
use Rattle.command_field.proofs.freedom.first_taken.Given as goal

abbrev pub invariant-loop-request : goal.invariant-loop-request
invariant-loop-request g l = record {
  read : IsUntouched g.S.Store l.fn.world l.world;
  told : AllClean g.S.Store l.world.members → (w : World) → StandsFor g.S.Store l.fn.world w
      → AllByRecursion (IsNewIn w) (take l.request-index l.requests);
}
