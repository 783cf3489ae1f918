use Rattle.std.proofs.Common.{◌≤◌, length}
use Rattle.renumbering.proofs.Choosing.{AreLeast}
use Rattle.renumbering.proofs.free.least_free.Given as goal

-- The keys so far are all that are free below the next.
abbrev pub invariant-loop-key : goal.invariant-loop-key
invariant-loop-key l = record {
  least : AreLeast l.fn.used l.key l.keys.items;
  most : length l.keys.items ≤ l.n;
}
