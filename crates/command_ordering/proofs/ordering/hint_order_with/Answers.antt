use Rattle.command_ordering.proofs.ordering.hint_order_with.Goals as goal

pub returns : goal.returns
returns g c = (c.hint_order_in-ending.new.world, c.into_stores.ensures, c.hint_order_in-ending.ensures)
