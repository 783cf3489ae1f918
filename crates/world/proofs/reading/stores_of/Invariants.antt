use Rattle.std.proofs.Common.{◌≡◌, ◌+◌, ◌++◌, ◌≤◌, map, length, vec_len, vec_capacity}
use Rattle.world.proofs.reading.stores_of.Given as goal

abbrev pub invariant-loop-member : goal.invariant-loop-member
invariant-loop-member g l = record {
  listed : l.stores.items ≡ l.fn.stores.items ++ map (λ m. m.conn) l.yielded;
  room : length l.fn.members.items + vec_len l.stores ≤ vec_capacity l.stores + length l.yielded;
}
