use Rattle.std.proofs.Common.{take}
use Rattle.opening_verdict.specs.Tickets.{TellsLast}
use Rattle.opening_verdict.proofs.tickets.note_all.Given as goal

-- the last of the receipts so far
abbrev pub invariant-loop-receipt : goal.invariant-loop-receipt
invariant-loop-receipt l = TellsLast l.last (take l.receipt-index l.ledger)
