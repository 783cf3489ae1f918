use Rattle.std.proofs.Common.{◌∙◌, Ok, refl, ap, to_z-of_z, rules, FitsSigned, w64}
use Rattle.std.specs.Prelude.{◌&&◌}
use Rattle.std.specs.Ordering.{int_eq}
use Rattle.sqlite.specs.Held.{state}
use Rattle.store_sql.proofs.Staying.{looks_stays, stays_then}
use Rattle.store_sql.proofs.Transactions.{at_rest, same_survives, steps_failed, steps_none, steps_then}
use Rattle.package_tables.specs.Calls.{IsOneOf}
use Rattle.package_tables.specs.declared.fault.Fault.{Fault}
use Rattle.identity_register.proofs.Looking.{looked, asked}
use Rattle.custody.specs.Homing.{FromClean}
use Rattle.custody.proofs.Rows.{is_at, ThingsSoFar, none_so_far, thing_more, things_all}
use Rattle.custody.proofs.homing.bring_things.Goals as goal

pub loop-position-init : goal.loop-position-init
loop-position-init g c =
    let s = state g.S.Store c.args.source.now in
    record {
      same = refl;
      source = record {
        rests = c.requires;
        was_open = λ h. h;
        holds =
            at_rest g.S.Store g.met.S.Store.shut_if_dirty g.met.S.Store.settled c.args.source.now c.requires;
        survives = same_survives s;
      };
      each = simp (to_z-of_z, c.ranges.seq) (steps_none {X = Unit {0}} {E = Fault}
          (λ _. FromClean s (ThingsSoFar c.args.seq 0 s.now)) (state g.S.Store c.args.tx.now.conn.now) tt
          (λ clean. none_so_far c.args.seq s.now (state g.S.Store c.args.tx.now.conn.now).now));
    }

pub returns-in-None-clause-source : goal.returns-in-None-clause-source
returns-in-None-clause-source g c = stays_then c.loop-position.invariant.source (looks_stays c.moved_at.ensures)

pub returns-in-None-clause-steps : goal.returns-in-None-clause-steps
returns-in-None-clause-steps g c =
    let at_fits : FitsSigned w64 c.in_ok-at.at = search rules in
    let looks = asked (λ a t x. IsOneOf (λ y. int_eq y.seq c.args.seq && int_eq y.position a) t.moved x)
    c.in_ok-at.ensures.stored (simp (to_z-of_z, c.ranges.seq, at_fits) at c.moved_at.ensures) in
    things_all c.args.seq c.loop-position.position (state g.S.Store c.args.source.now)
    (state g.S.Store c.loop-position.source) (state g.S.Store c.moved_at.new.conn)
    c.loop-position.invariant.source
    (looked (λ t x. IsOneOf (is_at c.args.seq c.loop-position.position) t.moved x)
    (c.in_ok-moved_at.was ∙ ap Ok c.in-None.is) looks) (simp (to_z-of_z, c.ranges.seq) at
    c.loop-position.invariant.each)

pub returns-in_err-put_thing-in-Some-clause-source : goal.returns-in_err-put_thing-in-Some-clause-source
returns-in_err-put_thing-in-Some-clause-source g c = stays_then c.loop-position.invariant.source
    (looks_stays c.moved_at.ensures)

pub returns-in_err-put_thing-in-Some-clause-steps : goal.returns-in_err-put_thing-in-Some-clause-steps
returns-in_err-put_thing-in-Some-clause-steps g c = steps_failed _ c.from_residual-in_err-put_thing-in-Some.ensures.0
    (steps_then {Y = Unit {0}} {F = Fault} c.loop-position.invariant.each c.put_thing.ensures.steps)

pub loop-position-preserved : goal.loop-position-preserved
loop-position-preserved g c =
    let at_fits : FitsSigned w64 c.in_ok-at.at = search rules in
    let looks = asked (λ a t x. IsOneOf (λ y. int_eq y.seq c.args.seq && int_eq y.position a) t.moved x)
    c.in_ok-at.ensures.stored (simp (to_z-of_z, c.ranges.seq, at_fits) at c.moved_at.ensures) in
    record {
      same = c.put_thing.ensures.same_reference ∙ c.loop-position.invariant.same;
      source = stays_then c.loop-position.invariant.source (looks_stays c.moved_at.ensures);
      each = simp (to_z-of_z, c.ranges.seq) (thing_more c.args.seq c.loop-position.position c.in-Some.row
          (state g.S.Store c.args.source.now) (state g.S.Store c.loop-position.source)
          (state g.S.Store c.moved_at.new.conn) c.loop-position.invariant.source
          (looked (λ t x. IsOneOf (is_at c.args.seq c.loop-position.position) t.moved x)
          (c.in_ok-moved_at.was ∙ ap Ok c.in-Some.is) looks)
          (simp (to_z-of_z, c.ranges.seq) at c.loop-position.invariant.each)
          c.in_ok-put_thing-in-Some.ensures.steps);
    }
