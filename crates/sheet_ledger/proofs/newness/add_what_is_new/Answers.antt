-- The set has what the receipts so far name.
use Rattle.std.proofs.Common.{◌&&◌, ◌||◌, ◌+◌, ◌∙◌, ap, sym, bytes_eq, take}
use Rattle.std.specs.List.{list_any}
use Rattle.std.specs.Ordering.{nat_cmp}
use Rattle.std.specs.Cmp.Lexicographic.{slice_cmp}
use Rattle.std.specs.BTreeSet.{contains}
use Rattle.sheet_types.specs.Balance.{names_identity}
use Rattle.sheet_types.specs.World.{is_item_kind}
use Rattle.sheet_ledger.specs.Parts.{AddsWhatIsNew}
use Rattle.sheet_ledger.proofs.Walking.{says_no, denied, each_more, each_fails, one_more}
use Rattle.sheet_ledger.proofs.Sets.{known_more}
use Rattle.sheet_ledger.proofs.Fresh.{new_by_set, set_by_new}
use Rattle.sheet_ledger.proofs.newness.add_what_is_new.Goals as goal

pub returns-then-not-adds_what_is_new : goal.returns-then-not-adds_what_is_new
returns-then-not-adds_what_is_new c =
    let i = c.loop-receipt.receipt-index in
    let r = c.receipt-item.result in
    says_no (each_fails AddsWhatIsNew c.args.receipts.now i r c.loop-receipt-test.true c.receipt-item.is
    (λ new. denied c.adds_what_is_new.result c.adds_what_is_new.ensures c.if-not-adds_what_is_new.true
    (set_by_new c.loop-receipt.named (take i c.args.receipts.now) r c.loop-receipt.invariant.named new)))

pub loop-receipt-preserved : goal.loop-receipt-preserved
loop-receipt-preserved c =
    let i = c.loop-receipt.receipt-index in
    let r = c.receipt-item.result in
    record {
      named = known_more (λ x id. names_identity id x) (contains (slice_cmp nat_cmp) c.loop-receipt.named)
          (contains (slice_cmp nat_cmp) c.name_items.new.named) (take i c.args.receipts.now)
          (take (i + 1) c.args.receipts.now) r
          (one_more c.args.receipts.now i r c.loop-receipt-test.true c.receipt-item.is) c.loop-receipt.invariant.named
          (λ id. c.in_ok-name_items.ensures id ∙ ap (λ zs. contains (slice_cmp nat_cmp) c.loop-receipt.named id ||
          list_any (λ m. is_item_kind m.kind && bytes_eq m.base id) zs) c.as_slice.ensures);
      so_far = each_more AddsWhatIsNew c.args.receipts.now i r c.loop-receipt-test.true c.receipt-item.is
          c.loop-receipt.invariant.so_far
          (new_by_set c.loop-receipt.named (take i c.args.receipts.now) r c.loop-receipt.invariant.named
          (c.adds_what_is_new.ensures.0 c.if-not-adds_what_is_new.false));
    }
