use Rattle.std.proofs.Common.{◌≡◌, ◌+◌, length}
use Rattle.opening_stores.proofs.SharedOut.{IsSharing}
use Rattle.opening_stores.proofs.sharing.share_out.Given as goal

-- the last stores are shared out
abbrev pub invariant-loop : goal.invariant-loop
invariant-loop g l = record {
  sharing : IsSharing l.fn.stores.items l.kept l.rest.items l.shares;
  count : length l.rest.items + l.counter ≡ length l.fn.stores.items;
}
