use Rattle.std.proofs.Common.{take}
use Rattle.std.specs.List.{AllZip}
use Rattle.sqlite.specs.Held.{state}
use Rattle.identity_register.specs.Told.{IsToldOf}
use Rattle.identity_register.proofs.Reaching.{GoesOn}
use Rattle.identity_register.proofs.told.told_of.Given as goal

-- The store is as it was, and what is told so far is told of its rows.
abbrev pub invariant-loop-row : goal.invariant-loop-row
invariant-loop-row g l = GoesOn (λ t. AllZip (λ r. IsToldOf r t) (take l.row-index l.rows) l.told.items)
    (state g.S.Store l.fn.conn) (state g.S.Store l.conn)
