use Rattle.std.proofs.Common.{◌≡◌, [], Ok}
use Rattle.sqlite.specs.Held.{state}
use Rattle.package_tables.specs.Listed.{matrices}
use Rattle.package_tables.specs.declared.fault.Fault.{Fault}
use Rattle.store_sql.specs.Transactions.{Steps}
use Rattle.package_tables.specs.Calls.{OnTables}
use Rattle.package_tables.specs.Fixed.{first_levels}
use Rattle.package_tables.specs.Changes.{ListBecomes}
use Rattle.package_creation.proofs.levels.insert_levels.Given as goal

abbrev pub invariant-loop-level : goal.invariant-loop-level
invariant-loop-level g l = record {
  same : l.tx.conn.ghost_name ≡ l.fn.tx.conn.ghost_name;
  each : Steps {X = Unit {0}} {E = Fault} (λ _. OnTables (ListBecomes matrices [] (first_levels l.fn.frame l.level)))
      (state g.S.Store l.fn.tx.conn.now) (state g.S.Store l.tx.conn.now) (Ok tt);
}
