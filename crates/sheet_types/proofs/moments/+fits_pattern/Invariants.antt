-- The pattern gets shorter.
use Rattle.std.proofs.Common.{length}
use Rattle.sheet_types.proofs.moments.+fits_pattern.Given as goal

abbrev pub decreases-fits_pattern : goal.decreases-fits_pattern
decreases-fits_pattern l = length l.pattern.now
