use Rattle.std.proofs.Common.{◌∙◌, [], refl, arith, subst}
use Rattle.std.proofs.lemmas.List.{take_all}
use Rattle.sqlite.specs.Held.{state}
use Rattle.store_sql.specs.Transactions.{Steps}
use Rattle.store_sql.proofs.Transactions.{steps_failed}
use Rattle.package_tables.specs.Calls.{OnTables}
use Rattle.package_tables.specs.Changes.{ListBecomes}
use Rattle.package_tables.proofs.InTurn.{done, made_none}
use Rattle.package_copy.proofs.Arriving.{comes_next}
use Rattle.package_copy.proofs.entering.enter_all.Goals as goal

pub loop-row-init : goal.loop-row-init
loop-row-init g c = record {
  same = refl;
  each = made_none g.met.T.Entered.listed [] []
      (state g.S.Store c.args.tx.now.conn.now) refl;
}

pub loop-row-preserved : goal.loop-row-preserved
loop-row-preserved g c = record {
  same = c.enter.ensures.same_reference ∙ c.loop-row.invariant.same;
  each = comes_next g.met.T.Entered.listed c.args.rows.now c.loop-row.row-index c.row-item.result c.row-item.result
      c.requires c.loop-row-test.true c.row-item.is c.loop-row.invariant.each c.in_ok-enter.ensures.steps;
}

pub returns-clause-steps : goal.returns-clause-steps
returns-clause-steps g c =
    subst (λ l. Steps (λ _. OnTables (ListBecomes g.T.Entered.list [] l)) (state g.S.Store c.args.tx.now.conn.now)
    (state g.S.Store c.loop-row.tx.conn.now) done) (take_all c.loop-row.row-index c.args.rows.now
    (omega (arith, c.loop-row-test.false))) c.loop-row.invariant.each

pub returns-in_err-enter-clause-steps : goal.returns-in_err-enter-clause-steps
returns-in_err-enter-clause-steps g c =
    steps_failed _ c.from_residual.ensures.0 (comes_next g.met.T.Entered.listed c.args.rows.now c.loop-row.row-index
    c.row-item.result c.row-item.result c.requires c.loop-row-test.true c.row-item.is c.loop-row.invariant.each
    c.enter.ensures.steps)
