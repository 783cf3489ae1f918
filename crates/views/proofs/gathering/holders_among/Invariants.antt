-- The packages so far are gathered.
use Rattle.std.proofs.Common.{take}
use Rattle.std.specs.List.{AllZip}
use Rattle.sheet_types.specs.World.{World}
use Rattle.world_members.specs.Members.{AllClean, AllOpen}
use Rattle.world.specs.Worlds.{StandsFor}
use Rattle.views.specs.Printed.{IsUntouched}
use Rattle.views.proofs.Gathered.{IsDrawn}
use Rattle.views.proofs.gathering.holders_among.Given as goal

abbrev pub invariant-loop-sight : goal.invariant-loop-sight
invariant-loop-sight g l = record {
  read : IsUntouched g.S.Store l.fn.world l.world;
  opens : AllClean g.S.Store l.world.members → AllOpen g.S.Store l.fn.world.members
      → AllOpen g.S.Store l.world.members;
  drawn : AllClean g.S.Store l.world.members → (w : World) → StandsFor g.S.Store l.fn.world w
      → AllZip (IsDrawn w l.zoom) (take l.sight-index l.sights) l.holders.items;
}
