use Rattle.std.proofs.Common.{◌≡◌, take, map, filter, unwrap_or, []}
use Rattle.sheet_types.specs.Custody.{is_open_among}
use Rattle.sheet_ledger.proofs.loans.list_open.Given as goal

-- the open loans of the receipts so far
abbrev pub invariant-loop-receipt : goal.invariant-loop-receipt
invariant-loop-receipt l = l.loans.items ≡ map (λ r. (unwrap_or r.target [], r.seq))
    (filter (is_open_among l.receipts) (take l.receipt-index l.receipts))
