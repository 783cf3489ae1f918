-- What was taken is the line so far.
use Rattle.std.specs.Io.KnownBytes.{Consumes}
use Rattle.desk_asking.proofs.reading.take_line.Given as goal

abbrev pub invariant-bytes : goal.invariant-bytes
invariant-bytes g l = Consumes (g.R.Read.remaining l.initial.reader) (g.R.Read.remaining l.reader) l.line.items
