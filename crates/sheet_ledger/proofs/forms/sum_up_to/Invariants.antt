use Rattle.std.proofs.Common.{◌≡◌, ◌+◌, take, sum_by}
use Rattle.sheet_ledger.proofs.forms.sum_up_to.Given as goal

-- what is left, and the sizes so far
abbrev pub invariant-loop-moved : goal.invariant-loop-moved
invariant-loop-moved l = l.left + sum_by (λ m. m.size) (take l.moved-index l.things) ≡ l.bytes
