-- The map has the custody of the receipts so far.
use Rattle.std.proofs.Common.{◌≡◌, ◌∙◌, sym, take, ◌+◌, subst}
use Rattle.std.specs.List.{AllByRecursion}
use Rattle.sheet_types.specs.World.{moved_thing}
use Rattle.sheet_ledger.specs.Accounts.{place_in}
use Rattle.sheet_ledger.specs.Parts.{StartsWhereItEnded}
use Rattle.sheet_ledger.proofs.Custody.{keeps_more, stand_by_map, stand_by_custody}
use Rattle.sheet_ledger.proofs.Walking.{says_no, denied, each_more, each_fails, one_more}
use Rattle.sheet_ledger.proofs.moving.start_where_they_ended.Goals as goal

pub returns-then-not-all_stand : goal.returns-then-not-all_stand
returns-then-not-all_stand c =
    let r = c.receipt-item.result in
    says_no (each_fails StartsWhereItEnded c.args.receipts.now c.loop-receipt.receipt-index r c.loop-receipt-test.true
    c.receipt-item.is
    (λ start. denied c.all_stand.result c.all_stand.ensures c.if-not-all_stand.true
    (stand_by_custody c.loop-receipt.places (take c.loop-receipt.receipt-index c.args.receipts.now) r.items
    c.as_slice.result.now r.source (sym c.as_slice.ensures) c.loop-receipt.invariant.kept start)))

pub loop-receipt-preserved : goal.loop-receipt-preserved
loop-receipt-preserved c =
    let r = c.receipt-item.result in
    let more = one_more c.args.receipts.now c.loop-receipt.receipt-index r c.loop-receipt-test.true c.receipt-item.is in
    record {
      kept = keeps_more c.loop-receipt.places c.note_all.new.places
          (take c.loop-receipt.receipt-index c.args.receipts.now)
          (take (c.loop-receipt.receipt-index + 1) c.args.receipts.now) r c.as_slice-in-loop-receipt.result.now more
          c.as_slice-in-loop-receipt.ensures c.loop-receipt.invariant.kept c.in_ok-note_all.ensures;
      so_far = each_more StartsWhereItEnded c.args.receipts.now c.loop-receipt.receipt-index r
          c.loop-receipt-test.true c.receipt-item.is c.loop-receipt.invariant.so_far
          (stand_by_map c.loop-receipt.places (take c.loop-receipt.receipt-index c.args.receipts.now)
          c.as_slice.result.now r.items r.source c.as_slice.ensures c.loop-receipt.invariant.kept
          (c.all_stand.ensures.0 c.if-not-all_stand.false));
    }
