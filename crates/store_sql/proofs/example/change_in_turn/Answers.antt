use Rattle.std.proofs.Common.{◌≡◌, rules, to_z-of_z}
use Rattle.store_sql.proofs.Transactions.{turn_dropped, turn_uncommitted, turn_committed}
use Rattle.store_sql.proofs.example.change_in_turn.Goals as goal

pub returns-in_err-count : goal.returns-in_err-count
returns-in_err-count g c =
    let last = c.insert_both.new.tx.conn.now in
    let same : c.drop-tx.new.self.0 ≡ c.conn-1.given.0 = search rules in
    let d = c.drop-tx.ensures in
    record {
      turns = turn_dropped g.S.Store g.met.S.Store.shut_if_dirty g.met.S.Store.settled last
          c.transaction-tx.ensures.begun same c.requires _ c.from_residual.ensures.0
          (simp (to_z-of_z, c.ranges.first, c.ranges.second, c.ranges.place) at c.insert_both.ensures.steps) d.undone
          d.survives d.ended;
    }

pub returns-in_err-commit : goal.returns-in_err-commit
returns-in_err-commit g c =
    let last = c.insert_both.new.tx.conn.now in
    let same : c.commit.new.self.0 ≡ c.conn-2-1.given.0 = search rules in
    let d = c.in_err-commit.ensures in
    record {
      turns = turn_uncommitted g.S.Store g.met.S.Store.shut_if_dirty g.met.S.Store.settled last
          c.transaction-tx.ensures.begun same c.requires (simp
          (to_z-of_z, c.ranges.first, c.ranges.second, c.ranges.place) at c.in_ok-count.ensures.steps) d.ended
          d.survives _ c.from_residual-in_err-commit.ensures.0 d.err;
    }

pub returns : goal.returns
returns g c =
    let last = c.insert_both.new.tx.conn.now in
    let same : c.commit.new.self.0 ≡ c.conn-2-1.given.0 = search rules in
    let d = c.in_ok-commit.ensures in
    record {
      turns = turn_committed g.S.Store g.met.S.Store.shut_if_dirty g.met.S.Store.settled last
          c.transaction-tx.ensures.begun same c.requires (simp
          (to_z-of_z, c.ranges.first, c.ranges.second, c.ranges.place) at c.in_ok-count.ensures.steps) d.ended
          d.survives (λ clean. (d.ok clean).1);
    }
