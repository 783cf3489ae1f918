-- The file that is opened is empty, so its database has no schema.
use Rattle.sqlite_wal.specs.Files.{seen_image}
use Rattle.sqlite.specs.Files.{file_state}
use Rattle.store_memory.proofs.Emptiness.{opened_blank, both_ok}
use Rattle.store_memory.proofs.blank.open_blank.Goals as goal

pub returns-clause-blank : goal.returns-clause-blank
returns-clause-blank g c =
    both_ok _ _ _ (λ conn opened found clean. opened_blank (file_state conn)
    (seen_image g.D.Disk c.args.files.log c.args.files.db) (opened clean).0 (opened clean).1 c.requires.empty
    (found clean).reads)
    c.open_files.result c.open_files.ensures.opened c.open_files.ensures.found
