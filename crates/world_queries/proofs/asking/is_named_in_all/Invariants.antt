use Rattle.std.specs.Prelude.{◌≡◌, false}
use Rattle.custody.specs.Receipts.{is_named}
use Rattle.world_queries.proofs.Asked.{Asked}
use Rattle.world_queries.proofs.asking.is_named_in_all.Given as goal

abbrev pub invariant-loop-at : goal.invariant-loop-at
invariant-loop-at g l = record {
  asked : Asked g.S.Store (λ p. is_named p l.fn.identity ≡ false) l.fn.members.items
      l.members.items l.at;
}
