use Rattle.command_ordering.proofs.ordering.hint_order_in.Goals as goal

pub returns : goal.returns
returns g c = record {
  mid = c.order_in-ending.new.world;
  ordered = c.order_in-ending.ensures;
  read = c.hint_after-hint.ensures.read;
  told = λ clean w stands. c.hint_after-hint.ensures.told clean w stands;
}
