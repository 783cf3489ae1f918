-- One sight more.
use Rattle.std.proofs.Common.{◌∙◌, ◌+◌, ◌++◌, [], ap, take}
use Rattle.sheet_ledger.proofs.Walking.{one_more}
use Rattle.sheet_balance.specs.Splits.{lents_in, lents_among}
use Rattle.sheet_balance.proofs.Splitting.{lents_more}
use Rattle.sheet_balance.proofs.splits.splits_of.Goals as goal

pub loop-sight-preserved : goal.loop-sight-preserved
loop-sight-preserved c =
    let i = c.loop-sight.sight-index in
    let s = c.sight-item.result in
    record {
      has = λ p. lents_more (λ x. lents_among x.uuid p x.receipts.items) [] (lents_in c.loop-sight.splits p)
          (lents_in c.note_splits.new.splits p) (take i c.args.sights.now) (take (i + 1) c.args.sights.now) s
          (one_more c.args.sights.now i s c.loop-sight-test.true c.sight-item.is) (c.loop-sight.invariant.has p)
          (c.in_ok-note_splits.ensures.noted p ∙ ap (λ rs. lents_in c.loop-sight.splits p
          ++ lents_among s.uuid p rs) c.as_slice.ensures.value);
      whole = c.in_ok-note_splits.ensures.whole ∙ c.loop-sight.invariant.whole;
    }
