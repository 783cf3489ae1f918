-- One request more, and one reply more.
use Rattle.std.proofs.Common.{◌≡◌, ◌∙◌, refl, sym, ap, subst, ◌+◌, ◌++◌, ◌∷◌, [], take, arith}
use Rattle.std.proofs.lemmas.List.{take_all, take_more}
use Rattle.world.specs.Worlds.{IsApplied, IsRun}
use Rattle.world.specs.Asked.{IsRunWith}
use Rattle.world.proofs.Running.{none_with, more_with, run_none, run_more}
use Rattle.world.proofs.world.World.run.Goals as goal

pub loop-request-preserved : goal.loop-request-preserved
loop-request-preserved g c =
    let q = c.request-item.result in
    let more : take (c.loop-request.request-index + 1) c.args.requests.now
    ≡ take c.loop-request.request-index c.args.requests.now ++ q ∷ [] =
    take_more c.args.requests.now c.loop-request.request-index q c.loop-request-test.true
    ∙ ap (λ x. take c.loop-request.request-index c.args.requests.now ++ x ∷ []) (sym c.request-item.is) in
    let applied : IsApplied g.S.Store q c.loop-request.self c.apply-reply.result c.apply-reply.new.self
    (g.H.Shelf.failures_of c.loop-request.shelf) (g.H.Shelf.failures_of c.apply-reply.new.shelf) =
    record {
      step = c.apply-reply.ensures.uses.step;
      still = c.apply-reply.ensures.still;
      unharmed = c.apply-reply.ensures.unharmed;
      rises = c.apply-reply.ensures.rises;
      failed = c.apply-reply.ensures.failed;
      cause = c.apply-reply.ensures.cause;
      usable = c.apply-reply.ensures.usable;
      shelf = c.apply-reply.ensures.shelf;
    } in
    let ran = run_more g.S.Store (take c.loop-request.request-index c.args.requests.now) q c.args.self.now
    c.loop-request.self c.apply-reply.new.self c.loop-request.replies.items c.apply-reply.result _ _ _
    c.loop-request.invariant.ran applied in
    let uses = more_with g.S.Store g.H.Shelf.asks g.H.Shelf.takes g.H.Shelf.failures_of
    (take c.loop-request.request-index c.args.requests.now) q c.args.self.now c.loop-request.self
    c.apply-reply.new.self c.loop-request.replies.items c.apply-reply.result _ _ _ c.args.shelf.now
    c.loop-request.shelf c.apply-reply.new.shelf c.loop-request.invariant.uses applied
    c.apply-reply.ensures.uses refl in
    record {
      ran = rw (more, c.push_reserved.ensures.items) ran;
      uses = rw (more, c.push_reserved.ensures.items) uses;
      room = omega (
        arith,
        c.loop-request.invariant.room,
        c.push_reserved.ensures.len,
        c.push_reserved.ensures.capacity,
      );
    }

pub loop-request-init : goal.loop-request-init
loop-request-init g c =
    record {
      ran = subst (λ rs. IsRun g.S.Store [] c.args.self.now rs c.args.self.now
          (g.H.Shelf.failures_of c.args.shelf.now) (g.H.Shelf.failures_of c.args.shelf.now))
          (sym c.in_ok-replies.ensures.items) (run_none g.S.Store c.args.self.now
          (g.H.Shelf.failures_of c.args.shelf.now));
      uses = subst (λ rs. IsRunWith g.S.Store g.H.Shelf.asks g.H.Shelf.takes g.H.Shelf.failures_of [] c.args.self.now
          rs c.args.self.now (g.H.Shelf.failures_of c.args.shelf.now) (g.H.Shelf.failures_of c.args.shelf.now)
          c.args.shelf.now c.args.shelf.now) (sym c.in_ok-replies.ensures.items)
          (none_with g.S.Store g.H.Shelf.asks g.H.Shelf.takes g.H.Shelf.failures_of c.args.self.now
          (g.H.Shelf.failures_of c.args.shelf.now) c.args.shelf.now);
      room = omega (arith, c.in_ok-replies.ensures.len, c.in_ok-replies.ensures.capacity);
    }

pub returns-clause-uses : goal.returns-clause-uses
returns-clause-uses g c =
    subst (λ qs. IsRunWith g.S.Store g.H.Shelf.asks g.H.Shelf.takes g.H.Shelf.failures_of qs c.args.self.now
    c.loop-request.replies.items c.loop-request.self (g.H.Shelf.failures_of c.args.shelf.now)
    (g.H.Shelf.failures_of c.loop-request.shelf) c.args.shelf.now c.loop-request.shelf)
    (take_all c.loop-request.request-index c.args.requests.now (omega (arith, c.loop-request-test.false)))
    c.loop-request.invariant.uses
