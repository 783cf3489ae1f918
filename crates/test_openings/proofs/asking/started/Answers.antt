-- One more, which was just opened.
use Rattle.sqlite.specs.Held.{state}
use Rattle.sqlite.specs.State.{HasCleanDisk}
use Rattle.store_sql.specs.Writing.{AreKeyed}
use Rattle.std.proofs.lemmas.List.Elements.{All-push, All-same}
use Rattle.test_openings.proofs.asking.started.Goals as goal

pub loop-remains-preserved : goal.loop-remains-preserved
loop-remains-preserved g c =
    All-same
    (λ conn. HasCleanDisk (state g.S.Store conn) → AreKeyed (state g.S.Store conn).now) _ _
    c.in_ok-push.ensures
    (All-push
    (λ conn. HasCleanDisk (state g.S.Store conn) → AreKeyed (state g.S.Store conn).now)
    c.loop-remains.stores.items c.in_ok-store.store c.loop-remains.invariant
    c.in_ok-store.ensures)
