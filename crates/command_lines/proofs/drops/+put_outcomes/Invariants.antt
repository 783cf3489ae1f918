-- The list gets shorter.
use Rattle.std.proofs.Common.{length}
use Rattle.command_lines.proofs.drops.+put_outcomes.Given as goal

abbrev pub decreases-put_outcomes : goal.decreases-put_outcomes
decreases-put_outcomes l = length l.requests.now
