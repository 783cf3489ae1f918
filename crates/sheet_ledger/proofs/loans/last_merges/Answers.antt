-- One receipt more.
use Rattle.std.proofs.Common.{◌≡◌, ◌∙◌, sym, ap, ◌+◌, ◌++◌, ◌∷◌, [], take}
use Rattle.std.proofs.lemmas.List.{take_more, take_all}
use Rattle.sheet_ledger.proofs.Lending.{last_more}
use Rattle.sheet_ledger.proofs.loans.last_merges.Goals as goal

pub loop-receipt-preserved : goal.loop-receipt-preserved
loop-receipt-preserved c =
    let i = c.loop-receipt.receipt-index in
    let more : take (i + 1) c.args.receipts.now ≡ take i c.args.receipts.now ++ c.receipt-item.result ∷ [] =
    take_more c.args.receipts.now i c.receipt-item.result c.loop-receipt-test.true
    ∙ ap (λ x. take i c.args.receipts.now ++ x ∷ []) (sym c.receipt-item.is) in
    last_more c.loop-receipt.merges c.note_receipt.new.merges (take i c.args.receipts.now)
    (take (i + 1) c.args.receipts.now) c.receipt-item.result more c.loop-receipt.invariant
    c.in_ok-note_receipt.ensures
