use Rattle.std.proofs.Common.{◌≡◌, ◌++◌, take, map, filter}
use Rattle.opening_faults.specs.Merges.{is_open_by}
use Rattle.opening_faults.specs.Sights.{claim_said}
use Rattle.opening_faults.specs.Splits.{split_made}
use Rattle.opening_faults.proofs.reaching.push_claims.Given as goal

-- those so far
abbrev pub invariant-loop-claim : goal.invariant-loop-claim
invariant-loop-claim l = l.opened.items ≡ l.initial.opened.items
    ++ map (split_made l.head) (filter (is_open_by l.merges) (map claim_said (take l.claim-index l.claims)))
