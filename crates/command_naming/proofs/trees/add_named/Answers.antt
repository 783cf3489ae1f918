-- So much is found for the word, and the tiles came into the package that it names, if it does.
use Rattle.std.proofs.Common.{refl, sym}
use Rattle.command_naming.proofs.trees.add_named.Goals as goal

pub returns-in-Ok-add_to : goal.returns-in-Ok-add_to
returns-in-Ok-add_to g c = record {
  found = c.in-Ok.found;
  told = c.in-Ok.ensures;
  made = (
    c.in-Ok-pick_one.«package»,
    sym c.in-Ok-pick_one.ensures,
    rw c.target_of-target.ensures at c.in-Ok-add_to.ensures,
  );
}

pub returns-in-Err-pick_one : goal.returns-in-Err-pick_one
returns-in-Err-pick_one g c = record {
  found = c.in-Ok.found;
  told = c.in-Ok.ensures;
  made = (sym c.in-Err-pick_one.ensures, refl, refl);
}
