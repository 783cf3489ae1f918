-- What was taken is what was put; each piece has a byte.
use Rattle.desk_asking.proofs.Copying.{Moved}
use Rattle.desk_asking.proofs.payloads.copy_payload.Given as goal

abbrev pub invariant-loop-left : goal.invariant-loop-left
invariant-loop-left g l =
    Moved (g.R.Read.remaining l.initial.reader) (g.R.Read.remaining l.reader) (g.W.Write.contents l.initial.writer)
    (g.W.Write.contents l.writer) l.size l.left

abbrev pub decreases-loop-left : goal.decreases-loop-left
decreases-loop-left g l = l.left
