use Rattle.commands.proofs.init.new_stores.Goals as goal

pub returns : goal.returns
returns g c = (_, c.in_ok-world.ensures, c.into_stores.ensures)
