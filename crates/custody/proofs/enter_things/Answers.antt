use Rattle.std.proofs.Common.{◌≤◌, ◌<◌, ◌∙◌, refl, sym, subst, length, arith}
use Rattle.sqlite.specs.Held.{state}
use Rattle.store_sql.specs.Transactions.{EachStep}
use Rattle.store_sql.specs.Writing.{EachChained}
use Rattle.store_sql.proofs.Transactions.{each_begins, each_goes_on, steps_answer}
use Rattle.custody.specs.Entries.{Enters, rows_from}
use Rattle.custody.proofs.Entering.{rows_more, rows_all}
use Rattle.custody.proofs.enter_things.Goals as goal

pub loop-position-init : goal.loop-position-init
loop-position-init g c = record { same = refl; each = each_begins Enters _ }

pub loop-position-preserved : goal.loop-position-preserved
loop-position-preserved g c =
    let less : c.loop-position.position < length c.args.things.now = omega arith in
    record {
      same = c.enter_moved.ensures.same_reference ∙ c.loop-position.invariant.same;
      each = subst (λ done. EachStep Enters done (state g.S.Store c.args.tx.now.conn.now)
          (state g.S.Store c.enter_moved.new.tx.conn.now)) (sym
          (rows_more c.args.seq c.loop-position.position c.args.things.now c.index-things-position.result
          c.index-things-position.is less)) (each_goes_on Enters _ _ c.loop-position.invariant.each
          c.in_ok-enter_moved.ensures.steps);
    }

pub returns-clause-steps : goal.returns-clause-steps
returns-clause-steps g c =
    let all : length c.args.things.now ≤ c.loop-position.position = omega arith in
    steps_answer (λ _. EachChained Enters (rows_from c.args.seq 0 c.args.things.now)) tt (λ it. it)
    (subst (λ done. EachStep Enters done (state g.S.Store c.args.tx.now.conn.now)
    (state g.S.Store c.loop-position.tx.conn.now)) (rows_all c.args.seq c.loop-position.position c.args.things.now
    all) c.loop-position.invariant.each)
