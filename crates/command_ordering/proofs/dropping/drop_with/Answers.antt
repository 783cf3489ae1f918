use Rattle.command_ordering.proofs.dropping.drop_with.Goals as goal

pub returns : goal.returns
returns g c = (c.drop_in-ending.new.world, c.into_stores.ensures, c.drop_in-ending.ensures)
