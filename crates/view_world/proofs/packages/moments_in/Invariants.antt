-- The moments of the numbers so far.
use Rattle.std.proofs.Common.{◌≡◌, take, map}
use Rattle.sheet_types.specs.World.{World, receipts_of}
use Rattle.world_members.specs.Members.{AllClean, AllOpen}
use Rattle.world.specs.Worlds.{StandsFor}
use Rattle.view_history.specs.Told.{moment_of}
use Rattle.view_world.specs.Looks.{IsLookedAt}
use Rattle.view_world.proofs.packages.moments_in.Given as goal

abbrev pub invariant-loop-at : goal.invariant-loop-at
invariant-loop-at g l = record {
  read : IsLookedAt g.S.Store l.fn.world l.world;
  opens : AllClean g.S.Store l.world.members → AllOpen g.S.Store l.fn.world.members
      → AllOpen g.S.Store l.world.members;
  told : AllClean g.S.Store l.world.members → (w : World) → StandsFor g.S.Store l.fn.world w
      → l.moments.items ≡ map (moment_of (receipts_of w)) (take l.at l.numbers);
}
