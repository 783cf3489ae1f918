-- A store that was just opened shows each table in the order of its rowids.
use Rattle.store_folder.proofs.Adopted.{files_keyed}
use Rattle.test_openings.proofs.files.opened.Goals as goal

pub returns-in-Ok : goal.returns-in-Ok
returns-in-Ok c = λ clean. files_keyed c.in-Ok.conn (c.in-Ok.ensures.opened clean)
