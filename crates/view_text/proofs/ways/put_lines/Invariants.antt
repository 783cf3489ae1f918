use Rattle.std.proofs.Common.{◌≡◌, ◌++◌, take}
use Rattle.std.specs.Prelude.{string_bytes}
use Rattle.view_text.specs.Ways.{way_lines}
use Rattle.view_text.proofs.ways.put_lines.Given as goal

-- the lines of the receipts so far
abbrev pub invariant-loop-receipt : goal.invariant-loop-receipt
invariant-loop-receipt l = string_bytes l.text ≡ string_bytes l.initial.text
    ++ way_lines l.identity (take l.receipt-index l.receipts)
