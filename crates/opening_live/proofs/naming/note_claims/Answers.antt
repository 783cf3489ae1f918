-- One claim more.
use Rattle.std.proofs.Common.{◌+◌, take}
use Rattle.std.specs.Ordering.{nat_cmp}
use Rattle.std.specs.Cmp.Lexicographic.{slice_cmp}
use Rattle.std.specs.BTreeSet.{contains}
use Rattle.sheet_ledger.proofs.Walking.{one_more}
use Rattle.sheet_ledger.proofs.Sets.{named_more}
use Rattle.opening_faults.specs.Merges.{is_open_by}
use Rattle.opening_faults.specs.Sights.{claim_said}
use Rattle.opening_live.specs.Named.{names}
use Rattle.opening_live.proofs.naming.note_claims.Goals as goal

pub loop-claim-preserved : goal.loop-claim-preserved
loop-claim-preserved c =
    let i = c.loop-claim.claim-index in
    named_more (λ x key. names (is_open_by c.args.merges.now) c.args.head.now (claim_said x) key)
    (contains (slice_cmp nat_cmp) c.args.loans.now) (contains (slice_cmp nat_cmp) c.loop-claim.loans)
    (contains (slice_cmp nat_cmp) c.note_claim.new.loans) (take i c.args.claims.now) (take (i + 1) c.args.claims.now)
    c.claim-item.result
    (one_more c.args.claims.now i c.claim-item.result c.loop-claim-test.true c.claim-item.is) c.loop-claim.invariant
    c.in_ok-note_claim.ensures
