-- The files of a folder are in no clause; which names may go is.
use Rattle.commands.proofs.TakenOut.{folder_tidied}
use Rattle.commands.proofs.tidying.tidy_beside.Goals as goal

pub returns : goal.returns
returns g c =
    let it = c.tidy_over.ensures in
    record {
      register = it.register;
      known = it.known;
      read = it.read;
      made = it.made;
      tidied = folder_tidied _ _ _ g.S.Store it.register _ _ it.made it.tidied;
      told = it.told;
    }
