-- Each store so far was just opened.
use Rattle.std.proofs.Common.{All}
use Rattle.sqlite.specs.Held.{state}
use Rattle.sqlite.specs.State.{HasCleanDisk}
use Rattle.store_sql.specs.Writing.{AreKeyed}
use Rattle.test_openings.proofs.asking.started.Given as goal

abbrev pub invariant-loop-remains : goal.invariant-loop-remains
invariant-loop-remains g l =
    All (λ conn. HasCleanDisk (state g.S.Store conn) → AreKeyed (state g.S.Store conn).now)
    l.stores.items
