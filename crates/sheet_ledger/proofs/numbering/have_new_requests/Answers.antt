-- The set has the requests so far.
use Rattle.std.proofs.Common.{◌≡◌, ◌∙◌, sym, ap, not, true, false, take, ◌+◌}
use Rattle.std.proofs.lemmas.Bool.{true≢false}
use Rattle.std.specs.Ordering.{nat_cmp}
use Rattle.std.specs.Cmp.Lexicographic.{slice_cmp}
use Rattle.std.specs.BTreeSet.{contains}
use Rattle.sheet_types.proofs.Basics.{not_true, not_false}
use Rattle.sheet_ledger.specs.Parts.{HasNewRequest}
use Rattle.sheet_ledger.proofs.Walking.{says_no, each_more, each_fails, one_more}
use Rattle.sheet_ledger.proofs.Sets.{seen_more}
use Rattle.sheet_ledger.proofs.numbering.have_new_requests.Goals as goal

pub returns-then-not-branch : goal.returns-then-not-branch
returns-then-not-branch c =
    let r = c.receipt-item.result in
    let there : contains (slice_cmp nat_cmp) c.loop-receipt.seen r.request ≡ true =
    not_false _ (sym c.in_ok-insert.ensures.added ∙ c.if-not-branch.true) in
    says_no (each_fails HasNewRequest c.args.receipts.now c.loop-receipt.receipt-index r c.loop-receipt-test.true
    c.receipt-item.is (λ new. true≢false (sym there ∙ c.loop-receipt.invariant.seen r.request ∙ new)))

pub loop-receipt-preserved : goal.loop-receipt-preserved
loop-receipt-preserved c =
    let r = c.receipt-item.result in
    let absent : contains (slice_cmp nat_cmp) c.loop-receipt.seen r.request ≡ false =
    not_true _ (sym c.in_ok-insert.ensures.added ∙ c.if-not-branch.false) in
    record {
      seen = seen_more (λ x. x.request) c.loop-receipt.seen c.insert.new.self
          (take c.loop-receipt.receipt-index c.args.receipts.now)
          (take (c.loop-receipt.receipt-index + 1) c.args.receipts.now) r
          (one_more c.args.receipts.now c.loop-receipt.receipt-index r c.loop-receipt-test.true c.receipt-item.is)
          c.loop-receipt.invariant.seen c.in_ok-insert.ensures.updates;
      so_far = each_more HasNewRequest c.args.receipts.now c.loop-receipt.receipt-index r c.loop-receipt-test.true
          c.receipt-item.is c.loop-receipt.invariant.so_far (sym (c.loop-receipt.invariant.seen r.request)
          ∙ absent);
    }
