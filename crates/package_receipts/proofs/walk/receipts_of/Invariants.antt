use Rattle.std.proofs.Common.{◌≡◌, length}
use Rattle.std.specs.Vec.Iter.{into_iter_items, into_iter_len}
use Rattle.package_receipts.proofs.Walking.{SoFar}
use Rattle.package_receipts.proofs.walk.receipts_of.Given as goal

abbrev pub invariant-loop-row : goal.invariant-loop-row
invariant-loop-row l = record {
  long : into_iter_len l.row-iterator ≡ length (into_iter_items l.row-iterator);
  so_far : SoFar (into_iter_items l.fn.rows) l.fn.moved l.entered.items (into_iter_items l.row-iterator) l.rest;
}
