use Rattle.std.proofs.Common.{◌≡◌, take}
use Rattle.sqlite.specs.Held.{state}
use Rattle.store_sql.specs.Transactions.{EachStep}
use Rattle.custody.specs.Entries.{Enters, rows_from}
use Rattle.custody.proofs.enter_things.Given as goal

abbrev pub invariant-loop-position : goal.invariant-loop-position
invariant-loop-position g l = record {
  same : l.tx.conn.ghost_name ≡ l.fn.tx.conn.ghost_name;
  each : EachStep Enters (take l.position (rows_from l.seq 0 l.things)) (state g.S.Store l.fn.tx.conn.now)
      (state g.S.Store l.tx.conn.now);
}
