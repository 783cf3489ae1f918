use Rattle.commands.proofs.init.new_world.Goals as goal

pub returns : goal.returns
returns g c = record {
  usable = c.in_ok-world.ensures.usable;
  alone = c.has_failed.ensures.held.none c.in_ok-world.ensures.usable;
  made = c.in_ok-world.ensures.made;
  dated = c.in_ok-world.ensures.dated;
  opens = c.in_ok-world.ensures.opens;
}
