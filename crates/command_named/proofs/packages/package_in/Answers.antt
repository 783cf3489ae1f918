-- What was found for the word, and what was printed of it.
use Rattle.std.proofs.Common.{Ok, Err, refl}
use Rattle.command_named.proofs.packages.package_in.Goals as goal

pub returns-in-Ok : goal.returns-in-Ok
returns-in-Ok g c = record {
  search = Ok c.in-Ok.found;
  told = λ w stands. c.in-Ok.ensures w stands;
  shown = c.show_found.ensures;
}

pub returns-in-Err : goal.returns-in-Err
returns-in-Err g c = record {
  search = Err c.in-Err.fault;
  told = tt;
  shown = (c.fault_ending.ensures, refl, c.into_stores.ensures, refl);
}
