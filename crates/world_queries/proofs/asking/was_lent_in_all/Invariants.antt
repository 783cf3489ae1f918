use Rattle.std.specs.Prelude.{◌≡◌, false}
use Rattle.custody.specs.Receipts.{was_lent}
use Rattle.world_queries.proofs.Asked.{Asked}
use Rattle.world_queries.proofs.asking.was_lent_in_all.Given as goal

abbrev pub invariant-loop-at : goal.invariant-loop-at
invariant-loop-at g l = record {
  asked : Asked g.S.Store (λ p. was_lent p l.fn.id ≡ false) l.fn.members.items
      l.members.items l.at;
}
