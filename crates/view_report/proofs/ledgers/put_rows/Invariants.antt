use Rattle.std.proofs.Common.{◌≡◌, ◌++◌, flat_map, take}
use Rattle.std.specs.Prelude.{string_bytes}
use Rattle.view_report.specs.Ledgers.{receipt_if}
use Rattle.view_report.proofs.ledgers.put_rows.Given as goal

-- the text of those so far
abbrev pub invariant-loop-receipt : goal.invariant-loop-receipt
invariant-loop-receipt l = string_bytes l.text ≡ string_bytes l.initial.text
    ++ flat_map (receipt_if l.register) (take l.receipt-index l.receipts)
