-- One receipt more.
use Rattle.std.proofs.Common.{◌≡◌, ◌∙◌, sym, ap, ◌+◌, ◌++◌, ◌∷◌, [], take, cond}
use Rattle.std.proofs.lemmas.List.{take_more}
use Rattle.sheet_types.specs.Custody.{is_open_among}
use Rattle.sheet_ledger.specs.Lending.{is_open_by}
use Rattle.sheet_ledger.proofs.Lending.{loan_of, loans_more, open_by}
use Rattle.sheet_ledger.proofs.loans.list_open.Goals as goal

pub loop-receipt-preserved : goal.loop-receipt-preserved
loop-receipt-preserved c =
    let i = c.loop-receipt.receipt-index in
    let r = c.receipt-item.result in
    let more : take (i + 1) c.args.receipts.now ≡ take i c.args.receipts.now ++ r ∷ [] =
    take_more c.args.receipts.now i r c.loop-receipt-test.true
    ∙ ap (λ x. take i c.args.receipts.now ++ x ∷ []) (sym c.receipt-item.is) in
    c.in_ok-push_open.ensures ∙ ap (λ zs. zs ++ cond (is_open_by c.in_ok-merges.merges r) (loan_of r ∷ []) [])
    c.loop-receipt.invariant
    ∙ loans_more (is_open_by c.in_ok-merges.merges) (is_open_among c.args.receipts.now) (take i c.args.receipts.now)
    (take (i + 1) c.args.receipts.now) r more (open_by c.in_ok-merges.merges c.args.receipts.now
    c.in_ok-merges.ensures r)
