use Rattle.std.proofs.Common.{◌≡◌, rules}
use Rattle.store_sql.proofs.Transactions.{turn_dropped, turn_uncommitted, turn_committed}
use Rattle.package_v1.proofs.Bringing.{left_at_either}
use Rattle.package_v1.proofs.migration.migrate.Goals as goal

pub returns-in_err-bring-clause-turns : goal.returns-in_err-bring-clause-turns
returns-in_err-bring-clause-turns g c =
    let last = c.bring.new.tx.conn.now in
    let same : c.drop-tx.new.self.0 ≡ c.conn-1.given.0 = search rules in
    let d = c.drop-tx.ensures in
    turn_dropped g.S.Store g.met.S.Store.shut_if_dirty g.met.S.Store.settled last c.transaction-tx.ensures.begun same
    c.requires _ c.from_residual.ensures.0 c.bring.ensures.steps d.undone d.survives d.ended

pub returns-in_err-bring-clause-left : goal.returns-in_err-bring-clause-left
returns-in_err-bring-clause-left g c clean is_open sound f p reads trees may =
    left_at_either _ sound f p reads trees ((returns-in_err-bring-clause-turns g c).left clean is_open trees may)

pub returns-in_err-commit-clause-turns : goal.returns-in_err-commit-clause-turns
returns-in_err-commit-clause-turns g c =
    let last = c.bring.new.tx.conn.now in
    let same : c.commit.new.self.0 ≡ c.conn-2-1.given.0 = search
    (rules, c.in_ok-bring.ensures.same_reference, c.transaction-tx.ensures) in
    let d = c.in_err-commit.ensures in
    turn_uncommitted g.S.Store g.met.S.Store.shut_if_dirty g.met.S.Store.settled last c.transaction-tx.ensures.begun
    same c.requires c.in_ok-bring.ensures.steps d.ended d.survives _ c.from_residual-in_err-commit.ensures.0 d.err

pub returns-in_err-commit-clause-left : goal.returns-in_err-commit-clause-left
returns-in_err-commit-clause-left g c clean is_open sound f p reads trees may =
    left_at_either _ sound f p reads trees ((returns-in_err-commit-clause-turns g c).left clean is_open trees may)

pub returns-clause-turns : goal.returns-clause-turns
returns-clause-turns g c =
    let last = c.bring.new.tx.conn.now in
    let same : c.commit.new.self.0 ≡ c.conn-2-1.given.0 = search
    (rules, c.in_ok-bring.ensures.same_reference, c.transaction-tx.ensures) in
    let d = c.in_ok-commit.ensures in
    turn_committed g.S.Store g.met.S.Store.shut_if_dirty g.met.S.Store.settled last c.transaction-tx.ensures.begun
    same c.requires c.in_ok-bring.ensures.steps d.ended d.survives (λ clean. (d.ok clean).1)

pub returns-clause-left : goal.returns-clause-left
returns-clause-left g c clean is_open sound f p reads trees may =
    left_at_either _ sound f p reads trees ((returns-clause-turns g c).left clean is_open trees may)
