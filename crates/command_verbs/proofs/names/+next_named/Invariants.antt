-- The list gets shorter.
use Rattle.std.proofs.Common.{length}
use Rattle.command_verbs.proofs.names.+next_named.Given as goal

abbrev pub decreases-next_named : goal.decreases-next_named
decreases-next_named l = length l.entries.now
