use Rattle.command_ordering.proofs.dropping.drop_in.Goals as goal

pub returns : goal.returns
returns g c = record {
  outcome = c.drop_named-outcome.result;
  faults = g.H.Shelf.failures_of c.args.shelf.now;
  more = g.H.Shelf.failures_of c.drop_named-outcome.new.shelf;
  made = c.drop_named-outcome.ensures;
  told = c.tell_outcome-ending.ensures;
  hinted = c.hint_after-hint.ensures;
}
