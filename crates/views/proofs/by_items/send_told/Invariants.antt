-- The world was only read; the rows of the items so far went out, and they are counted.
use Rattle.std.proofs.Common.{◌≡◌, ◌≤◌, take}
use Rattle.std.specs.Io.KnownBytes.{Appends}
use Rattle.view_export.specs.Exports.{items_behind}
use Rattle.view_export.specs.Numbers.{no_counts}
use Rattle.view_items.specs.Parts.{OfTold}
use Rattle.world_members.specs.Members.{AllClean, AllOpen}
use Rattle.views.specs.Printed.{IsUntouched}
use Rattle.views.proofs.Rows.{counts_behind}
use Rattle.views.proofs.by_items.send_told.Given as goal

abbrev pub invariant-loop-moved : goal.invariant-loop-moved
invariant-loop-moved g l = record {
  read : IsUntouched g.S.Store l.fn.world l.world;
  opens : AllClean g.S.Store l.world.members → AllOpen g.S.Store l.fn.world.members
      → AllOpen g.S.Store l.world.members;
  tiles : l.counts.tiles ≤ l.moved-index;
  media : l.counts.media ≤ l.moved-index;
  rows : l.counts.rows ≤ l.moved-index;
  sent : OfTold g.S.Store l.fn.package l.told l.fn.world l.world
      (λ items. (l.counts ≡ counts_behind no_counts (take l.moved-index items))
      × Appends (g.W.Write.contents l.initial.writer) (g.W.Write.contents l.writer)
      (items_behind l.frame no_counts (take l.moved-index items)));
}
