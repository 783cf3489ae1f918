-- The map allows what the receipts so far say.
use Rattle.std.proofs.Common.{◌+◌, ◌≡◌, sym, subst, take, ◌↔◌}
use Rattle.std.specs.List.{AllByRecursion}
use Rattle.std.specs.Ordering.{nat_cmp}
use Rattle.std.specs.Cmp.Lexicographic.{slice_cmp}
use Rattle.std.specs.BTreeMap.{get}
use Rattle.sheet_ledger.specs.Agreeing.{Allows, SaysSo}
use Rattle.sheet_ledger.specs.Parts.{AgreesWithPast}
use Rattle.sheet_ledger.proofs.Walking.{says_no, denied, each_more, each_fails, one_more}
use Rattle.sheet_ledger.proofs.Telling.{told_all, agree_by_map, map_by_agree}
use Rattle.sheet_ledger.proofs.agreeing.agree.Goals as goal

pub returns-then-not-all_agree : goal.returns-then-not-all_agree
returns-then-not-all_agree c =
    let i = c.loop-receipt.receipt-index in
    let r = c.receipt-item.result in
    says_no (each_fails AgreesWithPast c.args.receipts.now i r c.loop-receipt-test.true c.receipt-item.is
    (λ same. denied c.all_agree.result c.all_agree.ensures c.if-not-all_agree.true
    (map_by_agree c.loop-receipt.told (take i c.args.receipts.now) r c.as_slice.result.now
    (sym c.as_slice.ensures) c.loop-receipt.invariant.told same)))

pub loop-receipt-preserved : goal.loop-receipt-preserved
loop-receipt-preserved c =
    let i = c.loop-receipt.receipt-index in
    let r = c.receipt-item.result in
    record {
      told = λ thing u. told_all (λ x. AllByRecursion (SaysSo thing u) x.items)
          (Allows (get (slice_cmp nat_cmp) c.loop-receipt.told thing) u)
          (Allows (get (slice_cmp nat_cmp) c.note_all.new.told thing) u)
          (take i c.args.receipts.now) (take (i + 1) c.args.receipts.now) r
          (one_more c.args.receipts.now i r c.loop-receipt-test.true c.receipt-item.is)
          (c.loop-receipt.invariant.told thing u)
          (subst (λ zs. Allows (get (slice_cmp nat_cmp) c.note_all.new.told thing) u ↔
          (Allows (get (slice_cmp nat_cmp) c.loop-receipt.told thing) u × AllByRecursion (SaysSo thing u) zs))
          c.as_slice-in-loop-receipt.ensures (c.in_ok-note_all.ensures thing u));
      so_far = each_more AgreesWithPast c.args.receipts.now i r c.loop-receipt-test.true c.receipt-item.is
          c.loop-receipt.invariant.so_far
          (agree_by_map c.loop-receipt.told (take i c.args.receipts.now) r c.as_slice.result.now c.as_slice.ensures
          c.loop-receipt.invariant.told (c.all_agree.ensures.0 c.if-not-all_agree.false));
    }
