-- One claim more.
use Rattle.std.proofs.Common.{◌+◌, take, map}
use Rattle.sheet_ledger.proofs.Walking.{one_more}
use Rattle.opening_faults.specs.Merges.{is_above, merges_after}
use Rattle.opening_faults.specs.Sights.{claim_said}
use Rattle.opening_faults.proofs.Listing.{any_more, map_more}
use Rattle.opening_faults.proofs.merging.note_merges.Goals as goal

pub loop-claim-preserved : goal.loop-claim-preserved
loop-claim-preserved c = λ source n.
    let i = c.loop-claim.claim-index in
    any_more (merges_after source n) (is_above c.args.merges.now source n) (is_above c.loop-claim.merges source n)
    (is_above c.note_claim.new.merges source n)
    (map claim_said (take i c.args.claims.now)) (map claim_said (take (i + 1) c.args.claims.now))
    (claim_said c.claim-item.result)
    (map_more claim_said (take i c.args.claims.now) (take (i + 1) c.args.claims.now) c.claim-item.result
    (one_more c.args.claims.now i c.claim-item.result c.loop-claim-test.true c.claim-item.is))
    (c.loop-claim.invariant source n) (c.in_ok-note_claim.ensures source n)
