use Rattle.std.proofs.Common.{◌≡◌, [], Ok, take}
use Rattle.sqlite.specs.Held.{state}
use Rattle.store_sql.specs.Transactions.{Steps}
use Rattle.package_tables.specs.Calls.{OnTables}
use Rattle.package_tables.specs.Changes.{ListBecomes}
use Rattle.package_tables.specs.declared.fault.Fault.{Fault}
use Rattle.package_copy.proofs.entering.enter_all.Given as goal

abbrev pub invariant-loop-row : goal.invariant-loop-row
invariant-loop-row g l = record {
  same : l.tx.conn.ghost_name ≡ l.fn.tx.conn.ghost_name;
  each : Steps {X = Unit {0}} {E = Fault} (λ _. OnTables (ListBecomes g.T.Entered.list [] (take l.row-index l.rows)))
      (state g.S.Store l.fn.tx.conn.now) (state g.S.Store l.tx.conn.now) (Ok tt);
}
