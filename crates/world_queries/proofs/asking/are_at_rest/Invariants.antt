use Rattle.std.specs.List.{AllWithin}
use Rattle.sqlite.specs.Held.{state}
use Rattle.store_sql.specs.Transactions.{Rests}
use Rattle.world_members.specs.declared.members.Member.{Member}
use Rattle.world_queries.proofs.asking.are_at_rest.Given as goal

abbrev pub invariant-loop-at : goal.invariant-loop-at
invariant-loop-at g l = record {
  each : AllWithin (λ (m : Member g.row.S.Denot). Rests (state g.S.Store m.conn))
      l.members 0 l.at;
}
