-- The items so far have their numbers, and those to come get theirs behind the counts.
use Rattle.std.proofs.Common.{◌≡◌, ◌≤◌, ℕ, List, drop}
use Rattle.std.specs.Prelude.{unwrap_or}
use Rattle.view_export.specs.Numbers.{no_counts, noted_in, number_behind}
use Rattle.view_export.proofs.numbers.note_all.Given as goal

abbrev pub invariant-loop-item : goal.invariant-loop-item
invariant-loop-item l = record {
  tiles : l.counts.tiles ≤ l.item-index;
  media : l.counts.media ≤ l.item-index;
  rows : l.counts.rows ≤ l.item-index;
  numbered : (id : List ℕ) →
      unwrap_or (noted_in l.numbers id) (number_behind l.counts (drop l.item-index l.items) id)
      ≡ number_behind no_counts l.items id;
}
