-- The receipts that are asked for, and the end.
use Rattle.std.proofs.Common.{◌≡◌, ◌∙◌, [], ap, map}
use Rattle.std.specs.Borrow.{Bor}
use Rattle.sheet_types.specs.declared.receipt.Receipt.{Receipt}
use Rattle.view_text.specs.Ledgers.{asked_of}
use Rattle.view_json.specs.Ledgers.{receipt_data}
use Rattle.view_json.proofs.Opened.{data_behind, open_same}
use Rattle.view_json.proofs.ledgers.excerpt_json.Goals as goal

pub returns : goal.returns
returns c =
    let asked = asked_of c.args.ledger.now c.args.excerpt.now in
    let same : map (λ (r : Bor Receipt). receipt_data r.now) c.as_slice.result.now ≡ map receipt_data asked =
    data_behind c.as_slice.result.now
    ∙ ap (map receipt_data)
    (ap (map (λ (r : Bor Receipt). r.now)) c.as_slice.ensures.value ∙ c.in_ok-asked.ensures) in
    c.in_ok-text.ensures (map receipt_data asked)
    (open_same _ _ _ same (c.in_ok-put_receipts.ensures [] c.in_ok-lines.ensures))
