-- The list gets shorter.
use Rattle.std.proofs.Common.{length}
use Rattle.command_names.proofs.reading.+fits.Given as goal

abbrev pub decreases-fits : goal.decreases-fits
decreases-fits l = length l.word.now
