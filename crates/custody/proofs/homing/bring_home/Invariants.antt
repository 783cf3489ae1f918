use Rattle.std.proofs.Common.{◌≡◌, Ok}
use Rattle.sqlite.specs.Held.{state}
use Rattle.store_sql.specs.Staying.{Stays}
use Rattle.store_sql.specs.Transactions.{Steps}
use Rattle.package_tables.specs.declared.fault.Fault.{Fault}
use Rattle.custody.specs.Homing.{FromClean}
use Rattle.custody.proofs.Homecoming.{ReceiptsSoFar}
use Rattle.custody.proofs.homing.bring_home.Given as goal

-- The receipts up to the last have come, and the source is as it was.
abbrev pub invariant-loop : goal.invariant-loop
invariant-loop g l = record {
  same : l.tx.conn.ghost_name ≡ l.fn.tx.conn.ghost_name;
  source : Stays (state g.S.Store l.fn.source) (state g.S.Store l.source);
  each : Steps {X = Unit {0}} {E = Fault} (λ _. FromClean (state g.S.Store l.source)
      (ReceiptsSoFar l.last (state g.S.Store l.fn.source).now)) (state g.S.Store l.fn.tx.conn.now)
      (state g.S.Store l.tx.conn.now) (Ok tt);
}
