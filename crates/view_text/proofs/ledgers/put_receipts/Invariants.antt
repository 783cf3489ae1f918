use Rattle.std.proofs.Common.{◌≡◌, ◌++◌, take}
use Rattle.std.specs.Prelude.{flat_map, string_bytes}
use Rattle.view_text.specs.Ledgers.{ledger_line}
use Rattle.view_text.proofs.ledgers.put_receipts.Given as goal

-- the lines of the receipts so far
abbrev pub invariant-loop-receipt : goal.invariant-loop-receipt
invariant-loop-receipt l = string_bytes l.text ≡ string_bytes l.initial.text
    ++ flat_map (λ r. ledger_line r.now) (take l.receipt-index l.receipts)
