use Rattle.opening_verdict.proofs.Keeping.{IsKeeping}
use Rattle.opening_verdict.proofs.tallying.all_kept.Given as goal

-- of each so far
abbrev pub invariant-loop-place : goal.invariant-loop-place
invariant-loop-place l = IsKeeping l.ledger l.heads l.live l.sums l.place l.all.items
