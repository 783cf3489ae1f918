-- The three exits of a transaction.
use Rattle.std.proofs.Common.{◌≡◌, Result, Ok, Err, IsErrAnd, rules}
use Rattle.package_tables.specs.declared.fault.Fault.{Fault}
use Rattle.register_lending.specs.declared.turn_fault.TurnFault.{TurnFault}
use Rattle.register_lending.specs.declared.turn_fault.TurnFault.TheVariants.{Before, Committing}
use Rattle.store_sql.proofs.Transactions.{turn_dropped, turn_uncommitted, turn_committed}
use Rattle.register_lending.proofs.StayingOpen.{open_if_dropped, open_if_uncommitted, open_if_committed}
use Rattle.register_lending.proofs.StayingOpen.{survives_undone}
use Rattle.register_lending.proofs.WritingLoans.{committing}
use Rattle.register_lending.proofs.returning.take_home.Goals as goal

pub returns-in_err-take_home_inside-clause-turns : goal.returns-in_err-take_home_inside-clause-turns
returns-in_err-take_home_inside-clause-turns g c =
    let same : c.drop-tx.new.self.0 ≡ c.conn-1.given.0 = search rules in
    let d = c.drop-tx.ensures in
    turn_dropped g.S.Store g.met.S.Store.shut_if_dirty g.met.S.Store.settled c.take_home_inside.new.tx.conn.now
    c.transaction-tx.ensures.begun same c.requires.parent _ c.from_residual.ensures.0
    c.take_home_inside.ensures.steps d.undone d.survives d.ended

pub returns-in_err-take_home_inside-clause-was_open : goal.returns-in_err-take_home_inside-clause-was_open
returns-in_err-take_home_inside-clause-was_open g c =
    let same : c.drop-tx.new.self.0 ≡ c.conn-1.given.0 = search rules in
    let d = c.drop-tx.ensures in
    open_if_dropped g.S.Store g.met.S.Store.shut_if_dirty g.met.S.Store.settled c.args.conn.now
    c.take_home_inside.new.tx.conn.now c.transaction-tx.ensures.begun same c.take_home_inside.ensures.steps _
    d.survives d.undone

pub returns-in_err-take_home_inside-clause-unharmed : goal.returns-in_err-take_home_inside-clause-unharmed
returns-in_err-take_home_inside-clause-unharmed g c fault is =
    let same : c.drop-tx.new.self.0 ≡ c.conn-1.given.0 = search rules in
    let d = c.drop-tx.ensures in
    survives_undone g.S.Store g.met.S.Store.shut_if_dirty g.met.S.Store.settled c.args.conn.now
    c.take_home_inside.new.tx.conn.now c.transaction-tx.ensures.begun same c.requires.parent
    c.take_home_inside.ensures.steps d.undone d.survives d.ended

pub returns-in_err-commit-clause-turns : goal.returns-in_err-commit-clause-turns
returns-in_err-commit-clause-turns g c =
    let same : c.commit.new.self.0 ≡ c.conn-2-1.given.0 = search rules in
    let d = c.in_err-commit.ensures in
    turn_uncommitted g.S.Store g.met.S.Store.shut_if_dirty g.met.S.Store.settled c.take_home_inside.new.tx.conn.now
    c.transaction-tx.ensures.begun same c.requires.parent c.in_ok-take_home_inside.ensures.steps d.ended
    d.survives _ c.from_residual-in_err-commit.ensures.0 d.err

pub returns-in_err-commit-clause-was_open : goal.returns-in_err-commit-clause-was_open
returns-in_err-commit-clause-was_open g c =
    let same : c.commit.new.self.0 ≡ c.conn-2-1.given.0 = search rules in
    let d = c.in_err-commit.ensures in
    open_if_uncommitted g.S.Store g.met.S.Store.shut_if_dirty g.met.S.Store.settled c.args.conn.now
    c.take_home_inside.new.tx.conn.now c.transaction-tx.ensures.begun same c.in_ok-take_home_inside.ensures.steps
    _ d.survives d.err

pub returns-in_err-commit-clause-unharmed : goal.returns-in_err-commit-clause-unharmed
returns-in_err-commit-clause-unharmed g c fault is = absurd (committing _ _ fault
    c.from_residual-in_err-commit.ensures.1 is)

pub returns-clause-turns : goal.returns-clause-turns
returns-clause-turns g c =
    let same : c.commit.new.self.0 ≡ c.conn-2-1.given.0 = search rules in
    let d = c.in_ok-commit.ensures in
    turn_committed g.S.Store g.met.S.Store.shut_if_dirty g.met.S.Store.settled c.take_home_inside.new.tx.conn.now
    c.transaction-tx.ensures.begun same c.requires.parent c.in_ok-take_home_inside.ensures.steps d.ended
    d.survives (λ clean. (d.ok clean).1)

pub returns-clause-was_open : goal.returns-clause-was_open
returns-clause-was_open g c =
    let same : c.commit.new.self.0 ≡ c.conn-2-1.given.0 = search rules in
    let d = c.in_ok-commit.ensures in
    open_if_committed g.S.Store g.met.S.Store.shut_if_dirty g.met.S.Store.settled c.args.conn.now
    c.take_home_inside.new.tx.conn.now c.transaction-tx.ensures.begun same c.in_ok-take_home_inside.ensures.steps
    _ d.survives (λ clean. (d.ok clean).1)
