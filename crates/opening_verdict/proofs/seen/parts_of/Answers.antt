-- One store more, and at the end all.
use Rattle.std.proofs.Common.{◌≡◌, ◌∷◌, [], suc, length, sym, ap, subst, arith, rules}
use Rattle.std.specs.Vec.Iter.{into_iter_items, into_iter_len}
use Rattle.opening_verdict.proofs.Parting.{IsParting, begun, went_on, ended, none_long}
use Rattle.opening_verdict.proofs.seen.parts_of.Goals as goal

pub loop-store-preserved : goal.loop-store-preserved
loop-store-preserved c =
    let store = c.in-Some.store in
    let next : into_iter_items c.loop-store.store-iterator ≡ store ∷ into_iter_items c.next.new.self =
    search rules in
    let long : length (into_iter_items c.loop-store.store-iterator) ≡ suc (length (into_iter_items c.next.new.self)) =
    ap length next in
    record {
      long = omega (arith, long, c.loop-store.invariant.long, c.in-Some.ensures.steps.1);
      so_far = went_on c.args.seen.items c.loop-store.parts c.push_store.new.parts store
          (into_iter_items c.next.new.self)
          (subst (IsParting c.args.seen.items c.loop-store.parts) next c.loop-store.invariant.so_far)
          c.in_ok-push_store.ensures;
    }

pub returns : goal.returns
returns c =
    ended c.args.seen.items c.loop-store.parts (into_iter_items c.loop-store.store-iterator)
    c.loop-store.invariant.so_far
    (none_long (into_iter_len c.loop-store.store-iterator) (into_iter_items c.loop-store.store-iterator)
    c.loop-store.invariant.long c.in-None.ensures.steps.0)
