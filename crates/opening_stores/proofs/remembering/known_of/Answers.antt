-- One store more.
use Rattle.std.proofs.Common.{◌≡◌, ◌∙◌, sym, ap, subst, ◌+◌, ◌++◌, ◌∷◌, [], take}
use Rattle.std.specs.List.{AllByRecursion}
use Rattle.std.proofs.lemmas.List.{take_more}
use Rattle.world_known.specs.Known.{Notes}
use Rattle.opening_stores.specs.Judged.{AreAllNoted}
use Rattle.opening_stores.proofs.Judged.{noted_more}
use Rattle.opening_stores.proofs.remembering.known_of.Goals as goal

pub loop-store-preserved : goal.loop-store-preserved
loop-store-preserved c =
    let s = c.store-item.result in
    let more : take (c.loop-store.store-index + 1) c.args.seen.now ≡ take c.loop-store.store-index c.args.seen.now
    ++ s ∷ [] =
    take_more c.args.seen.now c.loop-store.store-index s c.loop-store-test.true
    ∙ ap (λ x. take c.loop-store.store-index c.args.seen.now ++ x ∷ []) (sym c.store-item.is) in
    subst (AreAllNoted c.note_all.new.self) (sym more)
    (noted_more c.loop-store.known c.note_all.new.self (take c.loop-store.store-index c.args.seen.now) s
    c.note_all.ensures.grows (subst (AllByRecursion (Notes c.note_all.new.self)) c.as_slice.ensures.value
    c.in_ok-note_all.ensures.notes) c.loop-store.invariant)
