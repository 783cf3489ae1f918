-- The list gets shorter.
use Rattle.std.proofs.Common.{length}
use Rattle.command_ordering.proofs.dropping.+replies_ending.Given as goal

abbrev pub decreases-replies_ending : goal.decreases-replies_ending
decreases-replies_ending l = length l.replies.now
