use Rattle.command_ordering.proofs.putting.put_tree_with.Goals as goal

pub returns : goal.returns
returns g c = (c.put_tree_in-ending.new.world, c.into_stores.ensures, c.put_tree_in-ending.ensures)
