-- The set has the packages that the receipts so far lend.
use Rattle.std.proofs.Common.{◌&&◌, ◌+◌, [], take}
use Rattle.std.specs.Ordering.{nat_cmp}
use Rattle.std.specs.Cmp.Lexicographic.{slice_cmp}
use Rattle.std.specs.BTreeSet.{contains}
use Rattle.sheet_types.specs.Custody.{is_split, ends_at}
use Rattle.sheet_ledger.specs.Parts.{LendsNewPackage}
use Rattle.sheet_ledger.proofs.Walking.{says_no, denied, each_more, each_fails, one_more}
use Rattle.sheet_ledger.proofs.Sets.{known_more}
use Rattle.sheet_ledger.proofs.Fresh.{lent_by_set, set_by_lent, still_whole}
use Rattle.sheet_ledger.proofs.newness.lend_new_packages.Goals as goal

pub returns-then-not-lends_new_package : goal.returns-then-not-lends_new_package
returns-then-not-lends_new_package c =
    let i = c.loop-receipt.receipt-index in
    let r = c.receipt-item.result in
    says_no (each_fails (LendsNewPackage c.args.archive) c.args.receipts.now i r c.loop-receipt-test.true
    c.receipt-item.is
    (λ new. denied c.lends_new_package.result c.lends_new_package.ensures c.if-not-lends_new_package.true
    (set_by_lent c.loop-receipt.lent c.args.archive (take i c.args.receipts.now) r c.loop-receipt.invariant.lent
    new)))

pub loop-receipt-preserved : goal.loop-receipt-preserved
loop-receipt-preserved c =
    let i = c.loop-receipt.receipt-index in
    let r = c.receipt-item.result in
    record {
      lent = known_more (λ x p. is_split x && ends_at x.target p) (contains (slice_cmp nat_cmp) c.loop-receipt.lent)
          (contains (slice_cmp nat_cmp) c.note_target.new.lent) (take i c.args.receipts.now)
          (take (i + 1) c.args.receipts.now) r
          (one_more c.args.receipts.now i r c.loop-receipt-test.true c.receipt-item.is) c.loop-receipt.invariant.lent
          c.in_ok-note_target.ensures.noted;
      whole = still_whole (contains (slice_cmp nat_cmp) c.loop-receipt.lent []) (is_split r) (ends_at r.target [])
          (contains (slice_cmp nat_cmp) c.note_target.new.lent []) (c.in_ok-note_target.ensures.noted [])
          c.loop-receipt.invariant.whole c.in_ok-note_target.ensures.whole;
      so_far = each_more (LendsNewPackage c.args.archive) c.args.receipts.now i r c.loop-receipt-test.true
          c.receipt-item.is c.loop-receipt.invariant.so_far
          (lent_by_set c.loop-receipt.lent c.args.archive (take i c.args.receipts.now) r c.loop-receipt.invariant.lent
          (c.lends_new_package.ensures.0 c.if-not-lends_new_package.false));
    }
