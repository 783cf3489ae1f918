-- By what the world tells of itself its folder was made tidy.
use Rattle.std.proofs.Common.{Err, Ok, ap, refl, rules}
use Rattle.command_words.specs.declared.statuses.Outcome.TheVariants.{Stopped}
use Rattle.command_folder.specs.declared.endings.Ending.TheVariants.{Usual}
use Rattle.commands.proofs.tidying.tidy_over.Goals as goal

pub returns-in-Ok : goal.returns-in-Ok
returns-in-Ok g c = record {
  register = Ok c.in-Ok.register;
  known = c.in-Ok.ensures.told;
  read = c.in-Ok.ensures.read;
  made = Ok c.tidy_by-done.result;
  tidied = c.tidy_by-done.ensures;
  told = c.tell.ensures;
}

pub returns-in-Err : goal.returns-in-Err
returns-in-Err g c = record {
  register = Err c.in-Err.fault;
  known = c.in-Err.ensures.told;
  read = c.in-Err.ensures.read;
  made = Err c.in-Err.fault;
  tidied = (refl, refl);
  told = (ap (λ failure. Usual (Stopped failure)) (search rules), refl);
}
