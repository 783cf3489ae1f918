-- What serving the request says of the members, said of the world.
use Rattle.std.proofs.Common.{refl, sym, ap, ◌∙◌, subst, Result, Err, inl, inr}
use Rattle.sheet_types.specs.declared.refusal.Refusal.{Refusal}
use Rattle.sheet_types.specs.declared.refusal.Refusal.TheVariants.{StoreFault}
use Rattle.sheet_types.specs.declared.receipt.Receipt.{Receipt}
use Rattle.world.specs.Asked.{IsStepWith}
use Rattle.world.specs.Worlds.{IsStep}
use Rattle.world_decisions.specs.Deciding.{child_asked}
use Rattle.world.proofs.Keeping.{settled_replied, settled_failed, held_after, step_unserved, unserved_with}
use Rattle.world.proofs.Keeping.{replied_with, failed_with, step_replied, step_failed, still_replied, still_failed}
use Rattle.world.proofs.Keeping.{no_trace_replied, no_trace_failed, none_failed, told_as_fault, rises_failed}
use Rattle.world.proofs.Keeping.{usable_after, cause_failed, counts_grow}
use Rattle.world.proofs.world.World.apply.Goals as goal

pub serve-requires-clause-none : goal.serve-requires-clause-none
serve-requires-clause-none g c = c.self.invariant.0.none c.if-self.false

pub serve-requires-clause-room : goal.serve-requires-clause-room
serve-requires-clause-room g c = c.self.invariant.1

pub invariant_of-self : goal.invariant_of-self
invariant_of-self g c = (
  held_after g.S.Store c.args.request.now _ _ c.in-Ok.reply c.self.invariant.0 refl
      c.serve.ensures.serves.0.rests c.serve.ensures.serves.0.stray_rests
      (λ usable. c.serve.ensures.serves.0.none c.in-Ok.reply c.in-Ok.is) c.serve.ensures.serves.0.counted
      (step_replied g.S.Store _ _ _ _ _ _ _ _ _ _ c.serve.ensures.serves.0 c.serve.ensures.serves.2
      c.serve.ensures.serves.3 _ _ _ _ refl
      c.in-Ok.reply c.in-Ok.is c.in-Ok.ensures.reads),
  c.serve.ensures.room,
)

pub invariant_of-self-in-Err : goal.invariant_of-self-in-Err
invariant_of-self-in-Err g c = (
  held_after g.S.Store c.args.request.now _ _ _ c.self.invariant.0 refl
      c.serve.ensures.serves.0.rests c.serve.ensures.serves.0.stray_rests
      (none_failed g.S.Store _ _ _ _ _ _ _ _ _ _ c.serve.ensures.serves.0 c.serve.ensures.serves.2
      c.serve.ensures.serves.3
      c.self.inside.has_failed _ c.self.inside.strays.items _ refl c.in-Err.fault c.in-Err.is
      c.is_lasting-self-inside.ensures) c.serve.ensures.serves.0.counted
      (step_failed g.S.Store _ _ _ _ _ _ _ _ _ _ c.serve.ensures.serves.0 c.serve.ensures.serves.2
      c.serve.ensures.serves.3 _ _ _ _ refl
      c.in-Err.fault c.in-Err.is _ refl),
  c.serve.ensures.room,
)

pub returns-in-Ok-clause-uses : goal.returns-in-Ok-clause-uses
returns-in-Ok-clause-uses g c = replied_with g.S.Store _ _ _ _ _ _ _ _ _ _ c.serve.ensures.serves.0
    c.serve.ensures.serves.2 c.serve.ensures.serves.3 c.self.inside.has_failed c.is_store_fault-self-inside.result _ _
    c.self.view_is
    g.H.Shelf.asks g.H.Shelf.takes g.H.Shelf.failures_of c.args.shelf.now c.serve.new.shelf c.serve.ensures.serves.1
    c.in-Ok.reply c.in-Ok.is c.in-Ok.ensures.reads
    (settled_replied g.S.Store _ _ _ _ _ _ _ _ _ _ c.serve.ensures.serves.0 c.serve.ensures.serves.2
    c.serve.ensures.serves.3
    c.self.inside.has_failed c.is_store_fault-self-inside.result _ _ c.self.view_is g.H.Shelf.asks g.H.Shelf.takes
    g.H.Shelf.failures_of c.args.shelf.now c.serve.new.shelf (child_asked c.args.request.now.command)
    c.in-Ok.reply c.in-Ok.ensures.child)
    c.in-Ok.ensures.unused

pub returns-in-Ok-clause-step : goal.returns-in-Ok-clause-step
returns-in-Ok-clause-step g c = step_replied g.S.Store _ _ _ _ _ _ _ _ _ _ c.serve.ensures.serves.0
    c.serve.ensures.serves.2 c.serve.ensures.serves.3 c.self.inside.has_failed c.is_store_fault-self-inside.result _ _
    c.self.view_is
    c.in-Ok.reply c.in-Ok.is c.in-Ok.ensures.reads

pub returns-in-Err-clause-step : goal.returns-in-Err-clause-step
returns-in-Err-clause-step g c = step_failed g.S.Store _ _ _ _ _ _ _ _ _ _ c.serve.ensures.serves.0
    c.serve.ensures.serves.2 c.serve.ensures.serves.3 c.self.inside.has_failed c.is_lasting-self-inside.result _ _
    c.self.view_is
    c.in-Err.fault c.in-Err.is _ c.refusal.ensures

pub returns-then-self-clause-step : goal.returns-then-self-clause-step
returns-then-self-clause-step g c = subst (λ s. IsStep g.S.Store c.args.request.now s (Err StoreFault) s)
    c.self.view_is (step_unserved g.S.Store g.met.S.Store.shut_if_dirty g.met.S.Store.settled c.args.request.now _
    c.self.invariant.0.rests c.if-self.true)

pub returns-in-Ok-clause-still : goal.returns-in-Ok-clause-still
returns-in-Ok-clause-still g c = still_replied g.S.Store _ _ _ _ _ _ _ _ _ _ c.serve.ensures.serves.0
    c.serve.ensures.serves.2 c.serve.ensures.serves.3 c.self.inside.has_failed c.is_store_fault-self-inside.result _ _
    c.self.view_is
    c.in-Ok.reply c.in-Ok.is

pub returns-in-Err-clause-uses : goal.returns-in-Err-clause-uses
returns-in-Err-clause-uses g c = failed_with g.S.Store _ _ _ _ _ _ _ _ _ _ c.serve.ensures.serves.0
    c.serve.ensures.serves.2 c.serve.ensures.serves.3 c.self.inside.has_failed c.is_lasting-self-inside.result _ _
    c.self.view_is
    g.H.Shelf.asks g.H.Shelf.takes g.H.Shelf.failures_of c.args.shelf.now c.serve.new.shelf c.serve.ensures.serves.1
    c.in-Err.fault c.in-Err.is _ c.refusal.ensures
    (settled_failed g.S.Store _ _ _ _ _ _ _ _ _ _ c.serve.ensures.serves.0 c.serve.ensures.serves.2
    c.serve.ensures.serves.3
    c.self.inside.has_failed c.is_lasting-self-inside.result _ _ c.self.view_is g.H.Shelf.asks g.H.Shelf.takes
    g.H.Shelf.failures_of c.args.shelf.now c.serve.new.shelf (child_asked c.args.request.now.command)
    c.in-Err.fault c.refusal.result c.is_lasting-self-inside.ensures c.in-Err.ensures.child)

pub returns-in-Err-clause-still : goal.returns-in-Err-clause-still
returns-in-Err-clause-still g c = still_failed g.S.Store _ _ _ _ _ _ _ _ _ _ c.serve.ensures.serves.0
    c.serve.ensures.serves.2 c.serve.ensures.serves.3 c.self.inside.has_failed c.is_lasting-self-inside.result _ _
    c.self.view_is
    c.in-Err.fault c.in-Err.is c.refusal.result

pub returns-then-self-clause-uses : goal.returns-then-self-clause-uses
returns-then-self-clause-uses g c =
    subst (λ s. IsStepWith g.S.Store g.H.Shelf.asks g.H.Shelf.takes g.H.Shelf.failures_of c.args.request.now s
    (Err StoreFault) s c.args.shelf.now c.args.shelf.now) c.self.view_is
    (unserved_with g.S.Store g.H.Shelf.asks g.H.Shelf.takes g.H.Shelf.failures_of g.met.S.Store.shut_if_dirty
    g.met.S.Store.settled c.args.request.now _ c.args.shelf.now c.self.invariant.0.rests c.if-self.true)

pub returns-in-Ok-clause-unharmed : goal.returns-in-Ok-clause-unharmed
returns-in-Ok-clause-unharmed g c = no_trace_replied g.S.Store _ _ _ _ _ _ _ _ _ _ c.serve.ensures.serves.0
    c.serve.ensures.serves.2 c.serve.ensures.serves.3 c.self.inside.has_failed c.is_store_fault-self-inside.result _ _
    c.self.view_is
    c.in-Ok.reply c.in-Ok.is

pub returns-in-Err-clause-unharmed : goal.returns-in-Err-clause-unharmed
returns-in-Err-clause-unharmed g c = no_trace_failed g.S.Store _ _ _ _ _ _ _ _ _ _ c.serve.ensures.serves.0
    c.serve.ensures.serves.2 c.serve.ensures.serves.3 c.self.inside.has_failed c.is_lasting-self-inside.result _ _
    c.self.view_is
    c.in-Err.fault c.in-Err.is c.refusal.result c.is_lasting-self-inside.ensures

pub returns-in-Ok-clause-cause : goal.returns-in-Ok-clause-cause
returns-in-Ok-clause-cause g c = λ is. inl (c.is_store_fault-self-inside.ensures.1 is)

pub returns-in-Err-clause-cause : goal.returns-in-Err-clause-cause
returns-in-Err-clause-cause g c = λ is. cause_failed (Result Receipt Refusal) c.in-Err.fault _ _ _ c.refusal.result
    c.is_lasting-self-inside.ensures c.in-Err.ensures.shelf c.refusal.ensures (let e = is in cc)

pub returns-in-Ok-clause-shelf : goal.returns-in-Ok-clause-shelf
returns-in-Ok-clause-shelf g c = counts_grow _ _ _ c.serve.ensures.shelf

pub returns-in-Err-clause-shelf : goal.returns-in-Err-clause-shelf
returns-in-Err-clause-shelf g c = counts_grow _ _ _ c.serve.ensures.shelf

pub returns-in-Ok-clause-usable : goal.returns-in-Ok-clause-usable
returns-in-Ok-clause-usable g c = usable_after c.in-Ok.reply _ _
    (sym (ap (λ s. s.has_failed) c.self.view_is) ∙ c.if-self.false) c.is_store_fault-self-inside.ensures

pub returns-in-Err-clause-usable : goal.returns-in-Err-clause-usable
returns-in-Err-clause-usable g c = λ no_fault. absurd (no_fault
    (told_as_fault c.in-Err.fault c.refusal.result c.refusal.ensures))

pub returns-then-self-clause-usable : goal.returns-then-self-clause-usable
returns-then-self-clause-usable g c = λ no_fault. absurd (no_fault (inr refl))

pub returns-in-Ok-clause-rises : goal.returns-in-Ok-clause-rises
returns-in-Ok-clause-rises g c = λ usable failed. (
  c.in-Ok.ensures.shelf,
  inl
      (c.is_store_fault-self-inside.ensures.0 failed),
)

pub returns-in-Err-clause-rises : goal.returns-in-Err-clause-rises
returns-in-Err-clause-rises g c = λ usable failed. rises_failed g.S.Store _ _ _ _ _ _ _ _ _ _ c.serve.ensures.serves.0
    c.serve.ensures.serves.2 c.serve.ensures.serves.3 c.self.inside.has_failed c.is_lasting-self-inside.result _ _
    c.self.view_is
    (Result Receipt Refusal) _ _ c.serve.ensures.tried c.in-Err.fault c.in-Err.is c.refusal.result
    c.refusal.ensures (Err c.refusal.result) refl c.is_lasting-self-inside.ensures c.in-Err.ensures.shelf failed
