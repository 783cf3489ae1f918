use Rattle.std.proofs.Common.{◌≡◌, ◌≤◌, ◌∙◌, arith}
use Rattle.sqlite.specs.Held.{state}
use Rattle.store_sql.proofs.Staying.{stays_then}
use Rattle.transfer.specs.Parcels.{names_of, things}
use Rattle.transfer.proofs.Carrying.{whole_more, whole_stop, whole_all}
use Rattle.transfer.proofs.pages.carry_each.Goals as goal

pub returns-then-not-came-clause-steps : goal.returns-then-not-came-clause-steps
returns-then-not-came-clause-steps g c =
    let order : c.loop-from.from ≤ c.page_end-end.result = omega
    (arith, c.page_end-end.ensures, c.loop-from.invariant.within) in
    whole_stop c.loop-from.from c.page_end-end.result (names_of c.args.selection.now) c.in_ok-came.came
    (state g.S.Store c.args.source.now) (state g.S.Store c.loop-from.source)
    (state g.S.Store c.carry_part.new.source)
    order c.if-not-came.true c.loop-from.invariant.source c.in_ok-came.ensures.source c.loop-from.invariant.each
    c.in_ok-came.ensures.steps

pub loop-from-preserved : goal.loop-from-preserved
loop-from-preserved g c =
    let order : c.loop-from.from ≤ c.page_end-end.result = omega
    (arith, c.page_end-end.ensures, c.loop-from.invariant.within) in
    record {
      within = omega (arith, c.page_end-end.ensures);
      same = c.carry_part.ensures.same_reference ∙ c.loop-from.invariant.same;
      source = stays_then c.loop-from.invariant.source c.in_ok-came.ensures.source;
      each = whole_more c.loop-from.from c.page_end-end.result (names_of c.args.selection.now) c.in_ok-came.came
          (state g.S.Store c.args.source.now) (state g.S.Store c.loop-from.source)
          (state g.S.Store c.carry_part.new.source)
          order c.if-not-came.false c.loop-from.invariant.source c.in_ok-came.ensures.source
          c.loop-from.invariant.each c.in_ok-came.ensures.steps;
    }

pub returns-clause-steps : goal.returns-clause-steps
returns-clause-steps g c =
    let all : things (names_of c.args.selection.now) ≤ c.loop-from.from =
    omega (arith, c.things-all.ensures, c.loop-from-test.false) in
    whole_all c.loop-from.from (names_of c.args.selection.now) (state g.S.Store c.args.source.now)
    (state g.S.Store c.loop-from.source) all c.loop-from.invariant.each
