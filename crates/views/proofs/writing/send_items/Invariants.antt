-- The rows of the items so far went out, and they are counted.
use Rattle.std.proofs.Common.{◌≡◌, ◌≤◌, take}
use Rattle.std.specs.Io.KnownBytes.{Appends}
use Rattle.view_export.specs.Exports.{items_behind}
use Rattle.view_export.specs.Numbers.{no_counts}
use Rattle.views.proofs.Rows.{counts_behind}
use Rattle.views.proofs.writing.send_items.Given as goal

abbrev pub invariant-loop-item : goal.invariant-loop-item
invariant-loop-item g l = record {
  tiles : l.counts.tiles ≤ l.item-index;
  media : l.counts.media ≤ l.item-index;
  rows : l.counts.rows ≤ l.item-index;
  counted : l.counts ≡ counts_behind no_counts (take l.item-index l.items);
  out : Appends (g.W.Write.contents l.initial.writer) (g.W.Write.contents l.writer)
      (items_behind l.frame no_counts (take l.item-index l.items));
}
