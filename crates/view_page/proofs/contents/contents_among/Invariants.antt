-- What the packages so far hold is there.
use Rattle.std.proofs.Common.{take}
use Rattle.sheet_types.specs.World.{World}
use Rattle.world_members.specs.Members.{AllClean}
use Rattle.world.specs.Worlds.{StandsFor}
use Rattle.world.specs.declared.reading.PackageSight.{PackageSight}
use Rattle.command_requests.specs.Listing.{IsUntouched}
use Rattle.view_page.specs.Registers.{AreContents}
use Rattle.view_page.proofs.contents.contents_among.Given as goal

abbrev pub invariant-loop-sight : goal.invariant-loop-sight
invariant-loop-sight g l = record {
  read : IsUntouched g.S.Store l.fn.world l.world;
  told : AllClean g.S.Store l.world.members → (w : World) → StandsFor g.S.Store l.fn.world w
      → AreContents w (λ (s : PackageSight). s.uuid) (take l.sight-index l.sights) l.all;
}
