use Rattle.std.proofs.Common.{◌≡◌, ◌∙◌, sym, subst, take}
use Rattle.sqlite.specs.Held.{state}
use Rattle.store_sql.specs.Transactions.{EachStep}
use Rattle.store_sql.proofs.Transactions.{each_goes_on}
use Rattle.transfer.specs.Removals.{DropsLink}
use Rattle.transfer.proofs.Trying.{take_one}
use Rattle.transfer.proofs.taking.drop_links.Goals as goal

pub loop-relation-preserved : goal.loop-relation-preserved
loop-relation-preserved g c = record {
  same = c.drop_link.ensures.same_reference ∙ c.loop-relation.invariant.same;
  each = subst (λ links. EachStep DropsLink links (state g.S.Store c.args.tx.now.conn.now)
      (state g.S.Store c.drop_link.new.tx.conn.now)) (sym (take_one c.args.relations.now
      c.loop-relation.relation-index c.relation-item.result c.loop-relation-test.true c.relation-item.is))
      (each_goes_on DropsLink _ c.relation-item.result c.loop-relation.invariant.each c.in_ok-drop_link.ensures.steps);
}
