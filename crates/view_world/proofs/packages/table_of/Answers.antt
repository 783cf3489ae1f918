-- The stores were asked, or left alone.
use Rattle.std.proofs.Common.{inl, inr, refl, subst, sym}
use Rattle.std.specs.Prelude.{IfOk}
use Rattle.view_world.specs.Kept.{AreKept}
use Rattle.view_world.proofs.HeldStores.{asks, asks_nothing}
use Rattle.view_world.proofs.packages.table_of.Goals as goal

pub returns-in_err-kept-clause-asked : goal.returns-in_err-kept-clause-asked
returns-in_err-kept-clause-asked g c =
    asks_nothing g.S.Store c.from_residual.result c.from_residual.ensures.0 (inl refl)

pub returns-in_err-text-clause-asked : goal.returns-in_err-text-clause-asked
returns-in_err-text-clause-asked g c =
    asks_nothing g.S.Store c.from_residual-in_err-text.result c.from_residual-in_err-text.ensures.0
    (inr c.table_by.ensures.read)

pub returns-clause-asked : goal.returns-clause-asked
returns-clause-asked g c =
    asks g.S.Store _ c.in_ok-text.was
    (λ packages it w same kept. it w same
    (subst (λ k. IfOk k (λ x. AreKept w x.sights.items x.sums.items)) c.in_ok-kept.was kept)) c.table_by.ensures
