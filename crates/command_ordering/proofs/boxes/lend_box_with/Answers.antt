use Rattle.command_ordering.proofs.boxes.lend_box_with.Goals as goal

pub returns : goal.returns
returns g c = (c.lend_box_in-ending.new.world, c.into_stores.ensures, c.lend_box_in-ending.ensures)
