-- The stores were asked, or left alone.
use Rattle.std.proofs.Common.{inl, inr, refl}
use Rattle.view_world.proofs.HeldStores.{asks, asks_nothing}
use Rattle.view_world.proofs.ledgers.log_in.Goals as goal

pub returns-in_err-count-clause-asked : goal.returns-in_err-count-clause-asked
returns-in_err-count-clause-asked g c =
    asks_nothing g.S.Store c.from_residual.result c.from_residual.ensures.0 (inl refl)

pub returns-in_err-text-clause-asked : goal.returns-in_err-text-clause-asked
returns-in_err-text-clause-asked g c =
    asks_nothing g.S.Store c.from_residual-in_err-text.result c.from_residual-in_err-text.ensures.0
    (inr c.log_by.ensures.read)

pub returns-clause-asked : goal.returns-clause-asked
returns-clause-asked g c = asks g.S.Store _ c.in_ok-text.was (λ packages it. it) c.log_by.ensures
