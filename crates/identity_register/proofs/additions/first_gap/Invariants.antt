use Rattle.std.proofs.Common.{◌≡◌, ◌≤ℤ◌, pos, Ok}
use Rattle.sqlite.specs.Held.{state}
use Rattle.store_sql.specs.Transactions.{Steps}
use Rattle.package_tables.specs.declared.fault.Fault.{Fault}
use Rattle.identity_register.proofs.Rooms.{SoFar}
use Rattle.identity_register.proofs.additions.first_gap.Given as goal

-- The numbers begin with 1, those so far are taken, and the store is as it was.
abbrev pub invariant-loop-number : goal.invariant-loop-number
invariant-loop-number g l = record {
  from : pos 1 ≤ℤ l.number;
  same : l.tx.conn.ghost_name ≡ l.fn.tx.conn.ghost_name;
  so_far : Steps {X = Unit {0}} {E = Fault} (λ _. SoFar l.fn.kind l.number) (state g.S.Store l.fn.tx.conn.now)
      (state g.S.Store l.tx.conn.now) (Ok tt);
}
