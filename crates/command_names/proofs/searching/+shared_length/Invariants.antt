-- The list gets shorter.
use Rattle.std.proofs.Common.{length}
use Rattle.command_names.proofs.searching.+shared_length.Given as goal

abbrev pub decreases-shared_length : goal.decreases-shared_length
decreases-shared_length l = length l.word.now
