-- The frames so far went to their writers.
use Rattle.desk_asking.proofs.Copying.{SoFar}
use Rattle.desk_asking.proofs.answers.copy_frames.Given as goal

abbrev pub invariant-frames : goal.invariant-frames
invariant-frames g l =
    SoFar (g.R.Read.remaining l.initial.reader) (g.R.Read.remaining l.reader) (g.W.Write.contents l.initial.output)
    (g.W.Write.contents l.output) (g.E.Write.contents l.initial.errors) (g.E.Write.contents l.errors) l.before
