use Rattle.std.proofs.Common.{◌≤◌, take, length}
use Rattle.std.specs.Prelude.{sum_by}
use Rattle.sheet_balance.proofs.accounts.receipt_count.Given as goal

-- no more than those of the packages so far
abbrev pub invariant-loop-sight : goal.invariant-loop-sight
invariant-loop-sight l = l.count ≤ sum_by (λ s. length s.receipts.items) (take l.sight-index l.sights)
