use Rattle.std.proofs.Common.{◌≡◌, take, Ok}
use Rattle.sqlite.specs.Held.{state}
use Rattle.store_sql.specs.Staying.{Stays}
use Rattle.store_sql.specs.Transactions.{Steps}
use Rattle.package_tables.specs.declared.fault.Fault.{Fault}
use Rattle.transfer.proofs.Carrying.{From, EachFrom}
use Rattle.transfer.proofs.pages.carry_items.Given as goal

-- The items so far have come in, and the source is as it was.
abbrev pub invariant-loop-identity : goal.invariant-loop-identity
invariant-loop-identity g l = record {
  same : l.tx.conn.ghost_name ≡ l.fn.tx.conn.ghost_name;
  source : Stays (state g.S.Store l.fn.source) (state g.S.Store l.source);
  each : Steps {X = Unit {0}} {E = Fault} (λ x. From (state g.S.Store l.fn.source) (state g.S.Store l.source)
      (λ p. EachFrom (take l.identity-index l.identities) p x)) (state g.S.Store l.fn.tx.conn.now)
      (state g.S.Store l.tx.conn.now) (Ok tt);
}
