use Rattle.std.proofs.Common.{◌≡◌, filter, map, take}
use Rattle.command_verbs.specs.Verbs.{text_of}
use Rattle.view_text.specs.Ledgers.{is_asked}
use Rattle.view_text.proofs.ledgers.asked_among.Given as goal

-- those of the receipts so far
abbrev pub invariant-loop-receipt : goal.invariant-loop-receipt
invariant-loop-receipt l = map (λ r. r.now) l.found.items ≡ filter
    (is_asked (text_of l.excerpt.«package») l.excerpt.from) (take l.receipt-index l.receipts)
