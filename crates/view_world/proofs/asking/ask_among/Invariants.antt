-- The packages so far were asked.
use Rattle.std.proofs.Common.{take}
use Rattle.std.specs.List.{AllZip}
use Rattle.sheet_types.specs.World.{World}
use Rattle.world_members.specs.Members.{AllClean, AllOpen}
use Rattle.world.specs.Worlds.{StandsFor}
use Rattle.view_world.specs.Looks.{IsLookedAt}
use Rattle.view_world.proofs.AskedPackages.{IsToldOf}
use Rattle.view_world.proofs.asking.ask_among.Given as goal

abbrev pub invariant-loop-sight : goal.invariant-loop-sight
invariant-loop-sight g l = record {
  read : IsLookedAt g.S.Store l.fn.world l.world;
  opens : AllClean g.S.Store l.world.members → AllOpen g.S.Store l.fn.world.members
      → AllOpen g.S.Store l.world.members;
  told : AllClean g.S.Store l.world.members → (w : World) → StandsFor g.S.Store l.fn.world w
      → AllZip (IsToldOf (g.Q.Question.tells l.fn.question) w) (take l.sight-index l.sights) l.answers.items;
}
