use Rattle.std.proofs.Common.{◌≡◌, length}
use Rattle.std.specs.Vec.Iter.{into_iter_items, into_iter_len}
use Rattle.sheet_balance.proofs.Parting.{IsParted}
use Rattle.sheet_balance.proofs.accounts.parted.Given as goal

-- the parts so far, and the packages that are still to come
abbrev pub invariant-loop-sight : goal.invariant-loop-sight
invariant-loop-sight l = record {
  long : into_iter_len l.sight-iterator ≡ length (into_iter_items l.sight-iterator);
  so_far : IsParted l.fn.sights.items l.receipts.items l.holders.items (into_iter_items l.sight-iterator);
}
