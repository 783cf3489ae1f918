-- The three exits of a transaction.
use Rattle.std.proofs.Common.{◌≡◌, rules}
use Rattle.store_sql.proofs.Transactions.{turn_dropped, turn_uncommitted, turn_committed}
use Rattle.register_lending.proofs.lending.fill.Goals as goal

pub returns-in_err-fill_inside-clause-turns : goal.returns-in_err-fill_inside-clause-turns
returns-in_err-fill_inside-clause-turns g c =
    let same : c.drop-tx.new.self.0 ≡ c.conn-1.given.0 = search rules in
    let d = c.drop-tx.ensures in
    turn_dropped g.S.Store g.met.S.Store.shut_if_dirty g.met.S.Store.settled c.fill_inside.new.tx.conn.now
    c.transaction-tx.ensures.begun same c.requires.child _ c.from_residual.ensures.0 c.fill_inside.ensures.steps
    d.undone d.survives d.ended

pub returns-in_err-commit-clause-turns : goal.returns-in_err-commit-clause-turns
returns-in_err-commit-clause-turns g c =
    let same : c.commit.new.self.0 ≡ c.conn-2-1.given.0 = search rules in
    let d = c.in_err-commit.ensures in
    turn_uncommitted g.S.Store g.met.S.Store.shut_if_dirty g.met.S.Store.settled c.fill_inside.new.tx.conn.now
    c.transaction-tx.ensures.begun same c.requires.child c.in_ok-fill_inside.ensures.steps d.ended d.survives _
    c.from_residual-in_err-commit.ensures.0 d.err

pub returns-clause-turns : goal.returns-clause-turns
returns-clause-turns g c =
    let same : c.commit.new.self.0 ≡ c.conn-2-1.given.0 = search rules in
    let d = c.in_ok-commit.ensures in
    turn_committed g.S.Store g.met.S.Store.shut_if_dirty g.met.S.Store.settled c.fill_inside.new.tx.conn.now
    c.transaction-tx.ensures.begun same c.requires.child c.in_ok-fill_inside.ensures.steps d.ended d.survives
    (λ clean. (d.ok clean).1)
