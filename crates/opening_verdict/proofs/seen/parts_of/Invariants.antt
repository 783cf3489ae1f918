use Rattle.std.proofs.Common.{◌≡◌, length}
use Rattle.std.specs.Vec.Iter.{into_iter_items, into_iter_len}
use Rattle.opening_verdict.proofs.Parting.{IsParting}
use Rattle.opening_verdict.proofs.seen.parts_of.Given as goal

-- the parts so far, and the stores that are still to come
abbrev pub invariant-loop-store : goal.invariant-loop-store
invariant-loop-store l = record {
  long : into_iter_len l.store-iterator ≡ length (into_iter_items l.store-iterator);
  so_far : IsParting l.fn.seen.items l.parts (into_iter_items l.store-iterator);
}
