use Rattle.std.proofs.Common.{◌≡◌, take}
use Rattle.sqlite.specs.Held.{state}
use Rattle.store_sql.specs.Transactions.{EachStep}
use Rattle.transfer.specs.Removals.{DropsItem}
use Rattle.transfer.proofs.taking.drop_items.Given as goal

-- Those so far have gone out.
abbrev pub invariant-loop-identity : goal.invariant-loop-identity
invariant-loop-identity g l = record {
  same : l.tx.conn.ghost_name ≡ l.fn.tx.conn.ghost_name;
  each : EachStep DropsItem (take l.identity-index l.identities) (state g.S.Store l.fn.tx.conn.now)
      (state g.S.Store l.tx.conn.now);
}
