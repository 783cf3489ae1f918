use Rattle.std.proofs.Common.{rules, arith, map, ◌∙◌, sym}
use Rattle.sqlite.specs.State.{HasCleanDisk}
use Rattle.sqlite.specs.Held.{state}
use Rattle.package_creation.proofs.SchemaMakes.{along_step, along_failed, mapped_more, passed_on}
use Rattle.package_creation.proofs.schema.make_each.Goals as goal

pub loop-text-preserved : goal.loop-text-preserved
loop-text-preserved g c = record {
  same = c.make.ensures.same_reference ∙ c.loop-text.invariant.same;
  along = along_step (map (λ text. text.now) c.args.texts.now) c.loop-text.text-index
      (state g.S.Store c.args.tx.now.conn.now) (state g.S.Store c.loop-text.tx.conn.now)
      (state g.S.Store c.make.new.tx.conn.now) _
      (mapped_more (λ text. text.now) c.args.texts.now c.loop-text.text-index _ c.loop-text-test.true)
      c.loop-text.invariant.along c.in_ok-make.ensures.made c.make.ensures.kept c.make.ensures.survives;
  ended = λ late. absurd (let e = (c.in_ok-make.ensures.ended (rw (c.loop-text.invariant.ended late).1 late)).0 in cc);
}

pub returns-in_err-make-clause-failed : goal.returns-in_err-make-clause-failed
returns-in_err-make-clause-failed g c clean inside =
    let was : HasCleanDisk (state g.S.Store c.loop-text.tx.conn.now) =
    omega (arith, c.make.ensures.survives.clean, clean) in
    let failed = along_failed (map (λ text. text.now) c.args.texts.now) c.loop-text.text-index
    (state g.S.Store c.args.tx.now.conn.now) (state g.S.Store c.loop-text.tx.conn.now)
    (state g.S.Store c.make.new.tx.conn.now) _ c.in_err-make.field-0.0
    (mapped_more (λ text. text.now) c.args.texts.now c.loop-text.text-index _ c.loop-text-test.true)
    c.loop-text.invariant.along was inside (c.in_err-make.ensures.failed clean
    (c.loop-text.invariant.along.inside was inside)) in
    search rules

pub returns-in_err-make-clause-ended : goal.returns-in_err-make-clause-ended
returns-in_err-make-clause-ended g c some late =
    let before = c.loop-text.invariant.ended late in
    let failed = c.make.ensures.ended (rw before.1 late) in (
      passed_on c.from_residual.result c.in_err-make.field-0.0 c.from_residual.ensures.1 ∙ sym (c.in_err-make.was)
          ∙ failed.0,
      failed.1 ∙ before.1,
    )
