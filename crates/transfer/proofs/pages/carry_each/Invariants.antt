use Rattle.std.proofs.Common.{◌≡◌, ◌≤◌, ◌-◌, Ok}
use Rattle.sqlite.specs.Held.{state}
use Rattle.store_sql.specs.Staying.{Stays}
use Rattle.store_sql.specs.Transactions.{Steps}
use Rattle.package_tables.specs.declared.fault.Fault.{Fault}
use Rattle.transfer.specs.Parcels.{names_of, things}
use Rattle.transfer.proofs.Carrying.{From, WholeFrom, first}
use Rattle.transfer.proofs.pages.carry_each.Given as goal

-- What stands before the position has come in, and the source is as it was.
abbrev pub invariant-loop-from : goal.invariant-loop-from
invariant-loop-from g l = record {
  within : l.from ≤ things (names_of l.selection);
  same : l.tx.conn.ghost_name ≡ l.fn.tx.conn.ghost_name;
  source : Stays (state g.S.Store l.fn.source) (state g.S.Store l.source);
  each : Steps {X = Unit {0}} {E = Fault} (λ x. From (state g.S.Store l.fn.source) (state g.S.Store l.source)
      (λ p. WholeFrom (first l.from (names_of l.selection)) p x)) (state g.S.Store l.fn.tx.conn.now)
      (state g.S.Store l.tx.conn.now) (Ok tt);
}

abbrev pub decreases-loop-from : goal.decreases-loop-from
decreases-loop-from g l = l.all - l.from
