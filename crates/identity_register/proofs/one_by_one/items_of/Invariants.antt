use Rattle.std.proofs.Common.{take}
use Rattle.std.specs.List.{AllZip}
use Rattle.sqlite.specs.Held.{state}
use Rattle.identity_register.specs.Gathered.{IsReadOf}
use Rattle.identity_register.proofs.Reaching.{GoesOn}
use Rattle.identity_register.proofs.one_by_one.items_of.Given as goal

-- The store is as it was, and the items so far are those of their rows.
abbrev pub invariant-loop-row : goal.invariant-loop-row
invariant-loop-row g l = GoesOn (λ t. AllZip (IsReadOf t) (take l.row-index l.rows) l.items.items)
    (state g.S.Store l.fn.conn) (state g.S.Store l.conn)
