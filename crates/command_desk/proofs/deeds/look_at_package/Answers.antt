-- The package that was named is the one that is looked at.
use Rattle.std.proofs.Common.{Ok, Err, refl}
use Rattle.command_desk.proofs.deeds.look_at_package.Goals as goal

pub returns-in-Ok : goal.returns-in-Ok
returns-in-Ok g c = record {
  mid = c.package_in-named.new.writer;
  named = Ok c.in-Ok.id;
  told = c.package_in-named.result.1;
  names = rw c.in-Ok.is at c.package_in-named.ensures;
  looks = (rw c.look_of.ensures at c.look_over.ensures, refl);
}

pub returns-in-Err : goal.returns-in-Err
returns-in-Err g c = record {
  mid = c.package_in-named.new.writer;
  named = Err c.in-Err.ending;
  told = c.package_in-named.result.1;
  names = rw c.in-Err.is at c.package_in-named.ensures;
  looks = (refl, refl, refl, refl);
}
