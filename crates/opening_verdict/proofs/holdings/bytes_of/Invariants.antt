use Rattle.std.proofs.Common.{◌≡◌, ◌<◌, ◌^◌, take, sum_by}
use Rattle.opening_verdict.proofs.holdings.bytes_of.Given as goal

-- the bytes so far, which have 64 bits
abbrev pub invariant-loop-moved : goal.invariant-loop-moved
invariant-loop-moved l = (l.bytes < 2 ^ 64) × (l.bytes ≡ sum_by (λ m. m.size) (take l.moved-index l.things))
