use Rattle.command_named.proofs.items.item_in.Goals as goal

pub returns : goal.returns
returns g c = record {
  mid = c.get_in-ending.new.world;
  gets = c.get_in-ending.ensures;
  last = c.hint_after-hint.new.world;
  left = c.into_stores.ensures;
  read = c.hint_after-hint.ensures.read;
  told = λ clean w stands. c.hint_after-hint.ensures.told clean w stands;
}
