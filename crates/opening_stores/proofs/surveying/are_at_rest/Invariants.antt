use Rattle.std.specs.List.{AllWithin}
use Rattle.sqlite.specs.Held.{Held, state}
use Rattle.store_sql.specs.Transactions.{Rests}
use Rattle.opening_stores.proofs.surveying.are_at_rest.Given as goal

abbrev pub invariant-loop-at : goal.invariant-loop-at
invariant-loop-at g l = record {
  each : AllWithin (λ (h : Held g.row.S.Denot). Rests (state g.S.Store h)) l.stores 0
      l.at;
}
