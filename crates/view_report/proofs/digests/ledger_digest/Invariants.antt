use Rattle.std.proofs.Common.{flat_map, take}
use Rattle.sha2.specs.Hashers.{Holds256}
use Rattle.view_report.specs.Ledgers.{hashed_line}
use Rattle.view_report.proofs.digests.ledger_digest.Given as goal

-- the lines so far were hashed
abbrev pub invariant-loop-receipt : goal.invariant-loop-receipt
invariant-loop-receipt l = Holds256 l.hasher (flat_map hashed_line (take l.receipt-index l.receipts))
