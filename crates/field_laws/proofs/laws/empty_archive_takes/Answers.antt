use Rattle.field_laws.proofs.Example.{empty_archive_takes}
use Rattle.field_laws.proofs.laws.empty_archive_takes.Goals as goal

pub returns : goal.returns
returns c = empty_archive_takes
