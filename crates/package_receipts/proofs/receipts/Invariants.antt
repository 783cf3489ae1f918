-- The receipts up to the last number are entered, and the store is as it was.
use Rattle.sqlite.specs.Held.{state}
use Rattle.identity_register.proofs.Looking.{Looked}
use Rattle.package_receipts.specs.Read.{AreSaidTo}
use Rattle.package_receipts.proofs.receipts.Given as goal

abbrev pub invariant-loop-place : goal.invariant-loop-place
invariant-loop-place g l = Looked (λ t. AreSaidTo l.after t l.entered.items) (state g.S.Store l.fn.conn)
    (state g.S.Store l.conn)
