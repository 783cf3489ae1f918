-- The packages so far are written.
use Rattle.std.proofs.Common.{take}
use Rattle.std.specs.Io.KnownBytes.{Appends}
use Rattle.sheet_types.specs.World.{World}
use Rattle.world_members.specs.Members.{AllClean}
use Rattle.world.specs.Worlds.{StandsFor}
use Rattle.cli.specs.Rehearsals.{StandsOn}
use Rattle.cli.proofs.Pieces.{listed_text}
use Rattle.cli.proofs.rehearse.write_each.Given as goal

abbrev pub invariant-loop-sight : goal.invariant-loop-sight
invariant-loop-sight g l = record {
  stands : StandsOn g.S.Store l.fn.world l.world;
  written : AllClean g.S.Store l.world.members → (w : World) → StandsFor g.S.Store l.fn.world w
      → Appends (g.W.Write.contents l.fn.writer) (g.W.Write.contents l.writer)
      (listed_text w (take l.sight-index l.sights));
}
