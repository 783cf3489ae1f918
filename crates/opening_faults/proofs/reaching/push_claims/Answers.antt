-- One claim more.
use Rattle.std.proofs.Common.{◌+◌, take, map}
use Rattle.sheet_ledger.proofs.Walking.{one_more}
use Rattle.opening_faults.specs.Merges.{is_open_by}
use Rattle.opening_faults.specs.Sights.{claim_said}
use Rattle.opening_faults.specs.Splits.{split_made}
use Rattle.opening_faults.proofs.Listing.{passing_more, map_more}
use Rattle.opening_faults.proofs.reaching.push_claims.Goals as goal

pub loop-claim-preserved : goal.loop-claim-preserved
loop-claim-preserved c =
    let i = c.loop-claim.claim-index in
    passing_more (split_made c.args.head.now) (is_open_by c.args.merges.now) c.args.opened.now.items
    c.loop-claim.opened.items c.push_claim.new.opened.items
    (map claim_said (take i c.args.claims.now)) (map claim_said (take (i + 1) c.args.claims.now))
    (claim_said c.claim-item.result)
    (map_more claim_said (take i c.args.claims.now) (take (i + 1) c.args.claims.now) c.claim-item.result
    (one_more c.args.claims.now i c.claim-item.result c.loop-claim-test.true c.claim-item.is))
    c.loop-claim.invariant c.in_ok-push_claim.ensures
