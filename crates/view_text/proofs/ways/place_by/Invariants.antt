use Rattle.std.proofs.Common.{◌≡◌, take}
use Rattle.view_text.specs.Ways.{place_by}
use Rattle.view_text.proofs.ways.place_by.Given as goal

-- where it stands by the receipts so far
abbrev pub invariant-loop-receipt : goal.invariant-loop-receipt
invariant-loop-receipt l = l.place ≡ place_by (take l.receipt-index l.receipts) l.identity
