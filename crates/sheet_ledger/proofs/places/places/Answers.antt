-- One receipt more.
use Rattle.std.proofs.Common.{◌≡◌, ◌∙◌, sym, ap, ◌+◌, ◌++◌, ◌∷◌, [], take}
use Rattle.std.proofs.lemmas.List.{take_more}
use Rattle.sheet_ledger.proofs.Custody.{keeps_more}
use Rattle.sheet_ledger.proofs.places.places.Goals as goal

pub loop-receipt-preserved : goal.loop-receipt-preserved
loop-receipt-preserved c =
    let i = c.loop-receipt.receipt-index in
    let r = c.receipt-item.result in
    let more : take (i + 1) c.args.receipts.now ≡ take i c.args.receipts.now ++ r ∷ [] =
    take_more c.args.receipts.now i r c.loop-receipt-test.true
    ∙ ap (λ x. take i c.args.receipts.now ++ x ∷ []) (sym c.receipt-item.is) in
    keeps_more c.loop-receipt.places c.note_all.new.places (take i c.args.receipts.now)
    (take (i + 1) c.args.receipts.now) r c.as_slice.result.now more c.as_slice.ensures c.loop-receipt.invariant
    c.in_ok-note_all.ensures
