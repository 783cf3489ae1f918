use Rattle.command_ordering.proofs.putting.put_tree_in.Goals as goal

pub returns : goal.returns
returns g c = record {
  outcome = c.add_named-outcome.result;
  made = c.add_named-outcome.ensures;
  told = c.tell_tree-ending.ensures;
  hinted = c.hint_after-hint.ensures;
}
