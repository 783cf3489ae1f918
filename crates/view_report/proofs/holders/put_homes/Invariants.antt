use Rattle.std.proofs.Common.{◌≡◌, ◌++◌, flat_map, take}
use Rattle.std.specs.Prelude.{string_bytes}
use Rattle.view_report.specs.Holders.{home_if}
use Rattle.view_report.proofs.holders.put_homes.Given as goal

-- the text of those so far
abbrev pub invariant-loop-receipt : goal.invariant-loop-receipt
invariant-loop-receipt l = string_bytes l.text ≡ string_bytes l.initial.text
    ++ flat_map (home_if l.register) (take l.receipt-index l.receipts)
