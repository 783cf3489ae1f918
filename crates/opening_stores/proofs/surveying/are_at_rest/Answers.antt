-- Each store tells whether it is inside a transaction.
use Rattle.std.proofs.Common.{refl, subst, slice_index_or, arith}
use Rattle.std.proofs.lemmas.List.Elements.{AllWithin-more}
use Rattle.std.proofs.lemmas.List.{get_or_default}
use Rattle.sqlite.specs.Held.{Held, state}
use Rattle.store_sql.specs.Transactions.{Rests}
use Rattle.opening_stores.proofs.surveying.are_at_rest.Goals as goal

pub loop-at-preserved : goal.loop-at-preserved
loop-at-preserved g c =
    let P : Held g.row.S.Denot → Type 0 = λ h. Rests (state g.S.Store h) in
    let rests : P (slice_index_or c.args.stores.now c.loop-at.at c.index-stores-at.result) =
    subst P c.index-stores-at.is (c.if-not-is_at_rest.ensures.yes refl) in
    record {
      each = AllWithin-more P c.args.stores.now 0 c.loop-at.at c.loop-at.invariant.each
          (λ d. subst P (get_or_default c.args.stores.now c.loop-at.at c.index-stores-at.result d c.loop-at-test.true)
          rests);
    }

pub returns : goal.returns
returns g c = (
  λ all k d low. c.loop-at.invariant.each k d (omega arith) (omega (arith, low, c.loop-at-test.false)),
  λ rest. refl,
)
