use Rattle.store_sql.proofs.Opened.{over_adopted}
use Rattle.store_sql.proofs.opening.adopt.Goals as goal

pub returns-clause-adopted : goal.returns-clause-adopted
returns-clause-adopted g c =
    let e = c.over.ensures in
    over_adopted g.S.Store g.met.S.Store.shut_if_dirty g.met.S.Store.settled c.args.store
    (g.met.S.Alter.listed c.args.store) (g.met.S.Store.ordered c.args.store) c.requires c.over.result e.opens
    e.clean e.trees
