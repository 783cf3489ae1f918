-- The list gets shorter.
use Rattle.std.proofs.Common.{length}
use Rattle.command_verbs.proofs.names.+find_archive.Given as goal

abbrev pub decreases-find_archive : goal.decreases-find_archive
decreases-find_archive l = length l.entries.now
