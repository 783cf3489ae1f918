-- The list gets shorter.
use Rattle.std.proofs.Common.{length}
use Rattle.command_verbs.proofs.items.+next_item.Given as goal

abbrev pub decreases-next_item : goal.decreases-next_item
decreases-next_item l = length l.entries.now
