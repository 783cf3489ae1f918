use Rattle.commands.proofs.working.work_in.Goals as goal

pub returns : goal.returns
returns g c = (c.do_work-ending.new.world, c.into_stores.ensures, c.do_work-ending.ensures)
