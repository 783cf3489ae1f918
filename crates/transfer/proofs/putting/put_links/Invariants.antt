use Rattle.std.proofs.Common.{◌≡◌, take}
use Rattle.sqlite.specs.Held.{state}
use Rattle.store_sql.specs.Transactions.{EachStep}
use Rattle.transfer.specs.Moves.{PutsLink}
use Rattle.transfer.proofs.putting.put_links.Given as goal

-- The links so far have come in.
abbrev pub invariant-loop-relation : goal.invariant-loop-relation
invariant-loop-relation g l = record {
  same : l.tx.conn.ghost_name ≡ l.fn.tx.conn.ghost_name;
  each : EachStep PutsLink (take l.relation-index l.relations) (state g.S.Store l.fn.tx.conn.now)
      (state g.S.Store l.tx.conn.now);
}
