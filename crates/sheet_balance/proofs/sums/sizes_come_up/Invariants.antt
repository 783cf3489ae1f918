use Rattle.std.proofs.Common.{◌≡◌, ◌+◌, take, sum_by}
use Rattle.sheet_balance.proofs.sums.sizes_come_up.Given as goal

-- what is left of what came, and the sizes so far
abbrev pub invariant-loop-moved : goal.invariant-loop-moved
invariant-loop-moved l = l.fn.left + l.rest + sum_by (λ m. m.size) (take l.moved-index l.items) ≡ l.fn.came
