-- The stores were asked, or left alone.
use Rattle.std.proofs.Common.{inl, inr, refl}
use Rattle.view_world.proofs.HeldStores.{asks, asks_nothing}
use Rattle.view_world.proofs.ways.way_in.Goals as goal

pub returns-in_err-count-clause-asked : goal.returns-in_err-count-clause-asked
returns-in_err-count-clause-asked g c =
    asks_nothing g.S.Store c.from_residual.result c.from_residual.ensures.0 (inl refl)

pub returns-in_err-found-clause-asked : goal.returns-in_err-found-clause-asked
returns-in_err-found-clause-asked g c =
    asks_nothing g.S.Store c.from_residual-in_err-found.result c.from_residual-in_err-found.ensures.0
    (inr c.way_by.ensures.read)

pub returns-clause-asked : goal.returns-clause-asked
returns-clause-asked g c = asks g.S.Store _ c.in_ok-found.was (λ packages it. it) c.way_by.ensures
