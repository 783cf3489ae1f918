-- A desk ends where its world has failed, where its listener has, or where all were served.
use Rattle.std.proofs.Common.{◌≡◌, ◌≤◌, ◌+◌, ◌∙◌, Ok, Err, refl, sym, arith, rules}
use Rattle.desk_http.specs.Connections.{AreServed}
use Rattle.desk_http.specs.declared.connections.DeskFault.TheVariants.{World, Listener}
use Rattle.desk_http.proofs.ServedBy.{desk_ended, desk_served, one_more}
use Rattle.desk_http.proofs.connections.serve_with.Goals as goal

pub connections-init : goal.connections-init
connections-init g c = (refl, sym c.has_failed.ensures.told ∙ c.if-has_failed.false)

pub connections-preserved : goal.connections-preserved
connections-preserved g c = (
  one_more g.S.Store c.connections.turn c.args.world.now c.connections.world c.serve_next-came.new.world
      c.connections.invariant.0 c.connections.invariant.1 c.serve_next-came.ensures,
  sym c.has_failed-in-connections.ensures.told ∙ c.if-has_failed-2.false,
)

pub returns-then-has_failed : goal.returns-then-has_failed
returns-then-has_failed g c = record {
  served = desk_served g.S.Store 0 c.args.count c.args.world.now c.args.world.now (omega arith) refl;
  ended = desk_ended g.S.Store 0 c.args.count c.args.world.now c.args.world.now (Err World) (omega arith) refl
      (sym c.has_failed.ensures.told ∙ c.if-has_failed.true);
}

pub returns-in_default : goal.returns-in_default
returns-in_default g c = record {
  served = desk_served g.S.Store 0 c.args.count c.args.world.now c.args.world.now (omega arith) refl;
  ended = desk_ended g.S.Store 0 c.args.count c.args.world.now c.args.world.now (Err Listener) (omega arith) refl
      (sym c.has_failed.ensures.told ∙ c.if-has_failed.false);
}

pub returns-then-has_failed-2 : goal.returns-then-has_failed-2
returns-then-has_failed-2 g c =
    let less = c.connections-test.true in
    let few : c.connections.turn + 1 ≤ c.args.count = omega (arith, less) in
    let each : AreServed g.S.Store (c.connections.turn + 1) c.args.world.now c.serve_next-came.new.world =
    one_more g.S.Store c.connections.turn c.args.world.now c.connections.world c.serve_next-came.new.world
    c.connections.invariant.0 c.connections.invariant.1 c.serve_next-came.ensures in
    record {
      served =
          desk_served g.S.Store (c.connections.turn + 1) c.args.count c.args.world.now c.serve_next-came.new.world few
          each;
      ended = desk_ended g.S.Store (c.connections.turn + 1) c.args.count c.args.world.now c.serve_next-came.new.world
          (Err World) few each (sym c.has_failed-in-connections.ensures.told ∙ c.if-has_failed-2.true);
    }

pub returns-then-misses-ge-MOST_MISSES : goal.returns-then-misses-ge-MOST_MISSES
returns-then-misses-ge-MOST_MISSES g c =
    let less = c.connections-test.true in
    let few : c.connections.turn + 1 ≤ c.args.count = omega (arith, less) in
    let each : AreServed g.S.Store (c.connections.turn + 1) c.args.world.now c.serve_next-came.new.world =
    one_more g.S.Store c.connections.turn c.args.world.now c.connections.world c.serve_next-came.new.world
    c.connections.invariant.0 c.connections.invariant.1 c.serve_next-came.ensures in
    record {
      served =
          desk_served g.S.Store (c.connections.turn + 1) c.args.count c.args.world.now c.serve_next-came.new.world few
          each;
      ended = desk_ended g.S.Store (c.connections.turn + 1) c.args.count c.args.world.now c.serve_next-came.new.world
          (Err Listener) few each (sym c.has_failed-in-connections.ensures.told ∙ c.if-has_failed-2.false);
    }

pub returns : goal.returns
returns g c =
    let all : c.connections.turn ≡ c.args.count = search rules in
    let few : c.connections.turn ≤ c.args.count = omega (arith, all) in
    record {
      served = desk_served g.S.Store c.connections.turn c.args.count c.args.world.now c.connections.world few
          c.connections.invariant.0;
      ended = desk_ended g.S.Store c.connections.turn c.args.count c.args.world.now c.connections.world (Ok tt) few
          c.connections.invariant.0 (all, c.connections.invariant.1);
    }
