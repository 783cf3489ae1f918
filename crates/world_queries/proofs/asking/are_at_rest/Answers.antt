-- Each store tells whether it is inside a transaction.
use Rattle.std.proofs.Common.{refl, subst, slice_index_or, arith}
use Rattle.std.proofs.lemmas.List.Elements.{AllWithin-more}
use Rattle.std.proofs.lemmas.List.{get_or_default}
use Rattle.sqlite.specs.Held.{state}
use Rattle.store_sql.specs.Transactions.{Rests}
use Rattle.world_members.specs.declared.members.Member.{Member}
use Rattle.world_queries.proofs.asking.are_at_rest.Goals as goal

pub loop-at-preserved : goal.loop-at-preserved
loop-at-preserved g c =
    let P : Member g.row.S.Denot → Type 0 = λ m. Rests (state g.S.Store m.conn) in
    let rests : P (slice_index_or c.args.members.now c.loop-at.at c.index-members-at.result) =
    c.if-not-is_at_rest.ensures.yes refl in
    record {
      each = AllWithin-more P c.args.members.now 0 c.loop-at.at c.loop-at.invariant.each
          (λ d. subst P (get_or_default c.args.members.now c.loop-at.at c.index-members-at.result d
          c.loop-at-test.true)
          rests);
    }

pub returns : goal.returns
returns g c = (
  λ all k d low. c.loop-at.invariant.each k d (omega arith) (omega (arith, low, c.loop-at-test.false)),
  λ rest. refl,
)
