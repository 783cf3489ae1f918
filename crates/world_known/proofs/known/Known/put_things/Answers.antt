-- One thing more.
use Rattle.std.proofs.Common.{◌≡◌, ◌∙◌, sym, ap, subst, ◌+◌, ◌++◌, ◌∷◌, [], take, Contains}
use Rattle.std.specs.List.{AllByRecursion}
use Rattle.std.proofs.lemmas.List.{take_more}
use Rattle.world_known.proofs.Keys.{one_more}
use Rattle.world_known.proofs.known.Known.put_things.Goals as goal

pub loop-thing-preserved : goal.loop-thing-preserved
loop-thing-preserved c =
    let m = c.thing-item.result in
    let more : take (c.loop-thing.thing-index + 1) c.args.things.now
    ≡ take c.loop-thing.thing-index c.args.things.now ++ m ∷ [] =
    take_more c.args.things.now c.loop-thing.thing-index m c.loop-thing-test.true
    ∙ ap (λ x. take c.loop-thing.thing-index c.args.things.now ++ x ∷ []) (sym c.thing-item.is) in
    record {
      known = subst (AllByRecursion (λ x. Contains c.put.new.self x.base)) (sym more)
          (one_more c.loop-thing.self c.put.new.self (take c.loop-thing.thing-index c.args.things.now) m
          c.put.ensures.grows c.in_ok-put.ensures.known c.loop-thing.invariant.known);
      grows = λ id is. c.put.ensures.grows id (c.loop-thing.invariant.grows id is);
    }
