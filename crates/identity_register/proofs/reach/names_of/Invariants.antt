use Rattle.std.proofs.Common.{take}
use Rattle.std.specs.List.{AllZip}
use Rattle.sqlite.specs.Held.{state}
use Rattle.identity_register.specs.Gathered.{IsNamed}
use Rattle.identity_register.proofs.Reaching.{GoesOn}
use Rattle.identity_register.proofs.reach.names_of.Given as goal

-- The store is as it was, and the names so far are those of its rows.
abbrev pub invariant-loop-number : goal.invariant-loop-number
invariant-loop-number g l = GoesOn (λ t. AllZip (IsNamed t.identities l.fn.kind) (take l.number-index l.numbers)
    l.names.items) (state g.S.Store l.fn.conn) (state g.S.Store l.conn)
