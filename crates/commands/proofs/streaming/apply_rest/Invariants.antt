-- The lines so far were taken one after the other.
use Rattle.std.proofs.Common.{ℕ, List}
use Rattle.commands.specs.Streams.{AreSteps, TakesNext, stage}
use Rattle.commands.proofs.streaming.apply_rest.Given as goal

abbrev pub invariant-lines : goal.invariant-lines
invariant-lines g l =
    (lines : List (List ℕ)) × AreSteps (TakesNext g.S.Store) lines
    (stage (g.R.Read.remaining l.fn.reader) l.fn.world (g.W.Write.contents l.fn.writer) l.fn.first)
    (stage (g.R.Read.remaining l.reader) l.world (g.W.Write.contents l.writer) l.ending)
