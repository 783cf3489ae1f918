use Rattle.std.proofs.Common.{◌≡◌, ◌∙◌, sym, subst, take}
use Rattle.sqlite.specs.Held.{state}
use Rattle.store_sql.specs.Transactions.{EachStep}
use Rattle.store_sql.proofs.Transactions.{each_goes_on}
use Rattle.transfer.specs.Removals.{DropsItem}
use Rattle.transfer.proofs.Trying.{take_one}
use Rattle.transfer.proofs.taking.drop_items.Goals as goal

pub loop-identity-preserved : goal.loop-identity-preserved
loop-identity-preserved g c = record {
  same = c.delete.ensures.same_reference ∙ c.loop-identity.invariant.same;
  each = subst (λ ids. EachStep DropsItem ids (state g.S.Store c.args.tx.now.conn.now)
      (state g.S.Store c.delete.new.tx.conn.now)) (sym (take_one c.args.identities.now c.loop-identity.identity-index
      c.identity-item.result c.loop-identity-test.true c.identity-item.is))
      (each_goes_on DropsItem _ c.identity-item.result c.loop-identity.invariant.each c.in_ok-delete.ensures.steps);
}
