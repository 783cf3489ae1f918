use Rattle.std.specs.Prelude.{None}
use Rattle.custody.specs.Receipts.{IsKept}
use Rattle.world_queries.proofs.Asked.{Asked}
use Rattle.world_queries.proofs.asking.kept_in_all.Given as goal

abbrev pub invariant-loop-at : goal.invariant-loop-at
invariant-loop-at g l = record {
  asked : Asked g.S.Store (λ p. IsKept p l.fn.id None) l.fn.members.items
      l.members.items l.at;
}
