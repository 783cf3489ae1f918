use Rattle.std.proofs.Common.{◌+◌, ◌≤◌, length}
use Rattle.std.specs.Prelude.{count_by, is_some}
use Rattle.opening_stores.proofs.Turning.{IsUnderWay}
use Rattle.opening_stores.proofs.bringing.bring_live.Given as goal

-- some were turned, and no more wait than rounds are left
abbrev pub invariant-loop : goal.invariant-loop
invariant-loop g l = record {
  under_way : IsUnderWay g.S.Store l.kept l.fn.stores.items l.stores.items l.waiting.items;
  count : count_by is_some l.waiting.items + l.counter ≤ length l.kept;
}
