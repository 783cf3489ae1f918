use Rattle.view_history.proofs.Asked.{Asked}
use Rattle.view_history.proofs.asking.ask_each.Given as goal

-- the first were asked
abbrev pub invariant-loop-at : goal.invariant-loop-at
invariant-loop-at g l = record {
  asked : Asked g.S.Store (g.Q.Question.tells l.fn.question) l.fn.stores.items
      l.stores.items l.at l.answers.items;
}
