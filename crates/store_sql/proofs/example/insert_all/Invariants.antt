use Rattle.std.proofs.Common.{◌≡◌, take}
use Rattle.sqlite.specs.Held.{state}
use Rattle.store_sql.specs.Transactions.{EachStep}
use Rattle.store_sql.specs.Notes.{Adds}
use Rattle.store_sql.proofs.example.insert_all.Given as goal

abbrev pub invariant-loop-note : goal.invariant-loop-note
invariant-loop-note g l = record {
  same : l.tx.conn.ghost_name ≡ l.fn.tx.conn.ghost_name;
  each : EachStep Adds (take l.note-index l.notes) (state g.S.Store l.fn.tx.conn.now) (state g.S.Store l.tx.conn.now);
}
