-- The three exits of a transaction.
use Rattle.std.proofs.Common.{◌≡◌, Result, Ok, Err, IsErrAnd, rules}
use Rattle.package_tables.specs.declared.fault.Fault.{Fault}
use Rattle.register_lending.specs.declared.turn_fault.TurnFault.{TurnFault}
use Rattle.register_lending.specs.declared.turn_fault.TurnFault.TheVariants.{Before, Committing}
use Rattle.store_sql.proofs.Transactions.{turn_dropped, turn_uncommitted, turn_committed}
use Rattle.world_changes.proofs.StayingOpen.{open_if_dropped, open_if_uncommitted, open_if_committed, survives_undone}
use Rattle.world_changes.proofs.carrying_out.apply_to_package.Goals as goal

-- an error of the commit is none of before it
committing : {X : Type 0} (r : Result X TurnFault) (made fault : Fault)
    → IsErrAnd r (λ turn. turn ≡ Committing made)
    → r ≡ Err (Before fault) → ⊥
committing (Ok x) made fault told is = absurd (let t = told in cc)
committing (Err turn) made fault told is = let t = told in cc

pub returns-in_err-carry_out : goal.returns-in_err-carry_out
returns-in_err-carry_out g c =
    let last = c.carry_out.new.tx.conn.now in
    let same : c.drop-tx.new.self.0 ≡ c.conn-1.given.0 = search rules in
    let d = c.drop-tx.ensures in
    record {
      turns = turn_dropped g.S.Store g.met.S.Store.shut_if_dirty g.met.S.Store.settled last
          c.transaction-tx.ensures.begun same c.requires _ c.from_residual.ensures.0 c.carry_out.ensures.steps
          d.undone d.survives d.ended;
      dated = turn_dropped g.S.Store g.met.S.Store.shut_if_dirty g.met.S.Store.settled last
          c.transaction-tx.ensures.begun same c.requires _ c.from_residual.ensures.0 c.carry_out.ensures.dated
          d.undone d.survives d.ended;
      numbers = turn_dropped g.S.Store g.met.S.Store.shut_if_dirty g.met.S.Store.settled last
          c.transaction-tx.ensures.begun same c.requires _ c.from_residual.ensures.0 c.carry_out.ensures.numbers
          d.undone d.survives d.ended;
      was_open = open_if_dropped g.S.Store g.met.S.Store.shut_if_dirty g.met.S.Store.settled c.args.conn.now last
          c.transaction-tx.ensures.begun same c.carry_out.ensures.steps _ d.survives d.undone;
      unharmed = λ fault is. survives_undone g.S.Store g.met.S.Store.shut_if_dirty g.met.S.Store.settled
          c.args.conn.now last c.transaction-tx.ensures.begun same c.requires c.carry_out.ensures.steps d.undone
          d.survives d.ended;
    }

pub returns-in_err-commit : goal.returns-in_err-commit
returns-in_err-commit g c =
    let last = c.carry_out.new.tx.conn.now in
    let same : c.commit.new.self.0 ≡ c.conn-2-1.given.0 = search rules in
    let d = c.in_err-commit.ensures in
    record {
      turns = turn_uncommitted g.S.Store g.met.S.Store.shut_if_dirty g.met.S.Store.settled last
          c.transaction-tx.ensures.begun same c.requires c.in_ok-carry_out.ensures.steps d.ended d.survives _
          c.from_residual-in_err-commit.ensures.0 d.err;
      dated = turn_uncommitted g.S.Store g.met.S.Store.shut_if_dirty g.met.S.Store.settled last
          c.transaction-tx.ensures.begun same c.requires c.in_ok-carry_out.ensures.dated d.ended d.survives _
          c.from_residual-in_err-commit.ensures.0 d.err;
      numbers = turn_uncommitted g.S.Store g.met.S.Store.shut_if_dirty g.met.S.Store.settled last
          c.transaction-tx.ensures.begun same c.requires c.in_ok-carry_out.ensures.numbers d.ended d.survives _
          c.from_residual-in_err-commit.ensures.0 d.err;
      was_open = open_if_uncommitted g.S.Store g.met.S.Store.shut_if_dirty g.met.S.Store.settled c.args.conn.now last
          c.transaction-tx.ensures.begun same c.in_ok-carry_out.ensures.steps _ d.survives d.err;
      unharmed = λ fault is. absurd (committing _ _ fault c.from_residual-in_err-commit.ensures.1 is);
    }

pub returns : goal.returns
returns g c =
    let last = c.carry_out.new.tx.conn.now in
    let same : c.commit.new.self.0 ≡ c.conn-2-1.given.0 = search rules in
    let d = c.in_ok-commit.ensures in
    record {
      turns = turn_committed g.S.Store g.met.S.Store.shut_if_dirty g.met.S.Store.settled last
          c.transaction-tx.ensures.begun same c.requires c.in_ok-carry_out.ensures.steps d.ended d.survives
          (λ clean. (d.ok clean).1);
      dated = turn_committed g.S.Store g.met.S.Store.shut_if_dirty g.met.S.Store.settled last
          c.transaction-tx.ensures.begun same c.requires c.in_ok-carry_out.ensures.dated d.ended d.survives
          (λ clean. (d.ok clean).1);
      numbers = turn_committed g.S.Store g.met.S.Store.shut_if_dirty g.met.S.Store.settled last
          c.transaction-tx.ensures.begun same c.requires c.in_ok-carry_out.ensures.numbers d.ended d.survives
          (λ clean. (d.ok clean).1);
      was_open = open_if_committed g.S.Store g.met.S.Store.shut_if_dirty g.met.S.Store.settled c.args.conn.now last
          c.transaction-tx.ensures.begun same c.in_ok-carry_out.ensures.steps _ d.survives (λ clean. (d.ok clean).1);
      unharmed = λ fault is. absurd (let e = is in cc);
    }
