use Rattle.std.proofs.Common.{◌≡◌, take, sum_by}
use Rattle.world_decisions.proofs.loan_receipts.bytes_of.Given as goal

-- the sizes so far
abbrev pub invariant-loop-thing : goal.invariant-loop-thing
invariant-loop-thing l = l.bytes ≡ sum_by (λ m. m.size) (take l.thing-index l.things)
