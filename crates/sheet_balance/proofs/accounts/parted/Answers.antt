-- One package more, and at the end all.
use Rattle.std.proofs.Common.{◌≡◌, ◌∷◌, suc, length, ap, subst, arith, rules}
use Rattle.std.specs.Vec.Iter.{into_iter_items, into_iter_len}
use Rattle.sheet_balance.proofs.Parting.{IsParted, went_on, receipts_moved, rests_left, none_long}
use Rattle.sheet_balance.proofs.accounts.parted.Goals as goal

pub loop-sight-preserved : goal.loop-sight-preserved
loop-sight-preserved c =
    let s = c.in-Some.sight in
    let next : into_iter_items c.loop-sight.sight-iterator ≡ s ∷ into_iter_items c.next.new.self = search rules in
    let long : length (into_iter_items c.loop-sight.sight-iterator) ≡ suc (length (into_iter_items c.next.new.self)) =
    ap length next in
    record {
      long = omega (arith, long, c.loop-sight.invariant.long, c.in-Some.ensures.steps.1);
      so_far = went_on c.args.sights.items c.loop-sight.receipts.items c.holder_of.new.receipts.items
          c.loop-sight.holders.items c.push.new.self.items s c.in_ok-holder.holder (into_iter_items c.next.new.self)
          (subst (IsParted c.args.sights.items c.loop-sight.receipts.items c.loop-sight.holders.items) next
          c.loop-sight.invariant.so_far) c.in_ok-holder.ensures.rest c.in_ok-holder.ensures.moved
          c.in_ok-push.ensures.items;
    }

pub returns-clause-receipts : goal.returns-clause-receipts
returns-clause-receipts c =
    receipts_moved c.args.sights.items c.loop-sight.receipts.items c.loop-sight.holders.items
    (into_iter_items c.loop-sight.sight-iterator) c.loop-sight.invariant.so_far
    (none_long (into_iter_len c.loop-sight.sight-iterator) (into_iter_items c.loop-sight.sight-iterator)
    c.loop-sight.invariant.long c.in-None.ensures.steps.0)

pub returns-clause-rests : goal.returns-clause-rests
returns-clause-rests c =
    rests_left c.args.sights.items c.loop-sight.receipts.items c.loop-sight.holders.items
    (into_iter_items c.loop-sight.sight-iterator) c.loop-sight.invariant.so_far
    (none_long (into_iter_len c.loop-sight.sight-iterator) (into_iter_items c.loop-sight.sight-iterator)
    c.loop-sight.invariant.long c.in-None.ensures.steps.0)
