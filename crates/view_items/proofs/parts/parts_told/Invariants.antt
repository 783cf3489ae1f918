-- The world was only read, and what is kept of the items so far is there.
use Rattle.std.proofs.Common.{◌≡◌, take}
use Rattle.std.specs.Prelude.{flat_map}
use Rattle.world_members.specs.Members.{AllClean, AllOpen}
use Rattle.view_items.specs.Parts.{OfTold}
use Rattle.view_world.specs.Looks.{IsLookedAt}
use Rattle.view_items.proofs.parts.parts_told.Given as goal

abbrev pub invariant-loop-moved : goal.invariant-loop-moved
invariant-loop-moved g l = record {
  read : IsLookedAt g.S.Store l.fn.world l.world;
  opens : AllClean g.S.Store l.world.members → AllOpen g.S.Store l.fn.world.members
      → AllOpen g.S.Store l.world.members;
  kept : OfTold g.S.Store l.fn.package l.told l.fn.world l.world
      (λ items. l.kept.items ≡ flat_map (g.P.Part.parts l.fn.part) (take l.moved-index items));
}
