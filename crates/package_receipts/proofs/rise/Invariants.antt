use Rattle.package_receipts.proofs.Saying.{Risen}
use Rattle.package_receipts.proofs.rise.Given as goal

abbrev pub invariant-loop-place : goal.invariant-loop-place
invariant-loop-place l = Risen l.place l.rows
