use Rattle.sqlite.specs.Held.{state}
use Rattle.custody.proofs.Lent.{LentSoFar}
use Rattle.custody.proofs.lending.was_lent.Given as goal

-- Each split with this target is above the last, and the store is as it was.
abbrev pub invariant-loop : goal.invariant-loop
invariant-loop g l = record {
  so : LentSoFar l.fn.id l.last (state g.S.Store l.fn.conn) (state g.S.Store l.conn);
}
