use Rattle.command_folder.specs.Numbering.{IsSeenOf}
use Rattle.command_folder.proofs.Walking.{Walked}
use Rattle.command_folder.proofs.numbering.look_at_each.Given as goal

-- the first were looked at
abbrev pub invariant-loop-at : goal.invariant-loop-at
invariant-loop-at g l = record {
  walked : Walked (IsSeenOf g.S.Store) l.fn.stores.items l.stores.items l.at l.sights.items;
}
