-- What was taken is the line so far.
use Rattle.commands.proofs.LineFacts.{SoFar}
use Rattle.commands.proofs.streaming.take_line.Given as goal

abbrev pub invariant-bytes : goal.invariant-bytes
invariant-bytes g l = SoFar (g.R.Read.remaining l.initial.reader) (g.R.Read.remaining l.reader) l.line.items
