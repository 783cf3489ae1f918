use Rattle.std.proofs.Common.{◌≡◌, IsTrue, false, sym, ◌∙◌, subst, arith}
use Rattle.sqlite.specs.Held.{state}
use Rattle.store_sql.specs.Transactions.{IsAdopted}
use Rattle.store_sql.proofs.Opened.{open_if_whole}
use Rattle.store_sql.proofs.opening.readopt.Goals as goal

pub returns-in-Ok-clause-adopted : goal.returns-in-Ok-clause-adopted
returns-in-Ok-clause-adopted g c clean =
    let v = g.S.Store.view c.into_store-store.result in
    let whole : v.is_broken ≡ false = sym (c.is_broken.ensures (omega (arith, c.in-Ok.ensures.clean, clean)))
    ∙ c.if-is_broken.false in
    let is_open : IsTrue v.is_open = open_if_whole v (g.met.S.Store.broken_if_shut c.into_store-store.result) whole in
    subst (IsAdopted (state g.S.Store c.in-Ok.conn)) (c.into_store-store.ensures.undone.undone is_open).0
    (c.in-Ok.ensures.adopted clean)
