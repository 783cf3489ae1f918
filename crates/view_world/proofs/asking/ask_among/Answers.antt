-- One package more was asked.
use Rattle.std.proofs.Common.{◌+◌, ap, inr, is_ok, subst, sym, take, take_all}
use Rattle.std.proofs.ResultArms.{chosen}
use Rattle.std.specs.List.{AllZip}
use Rattle.view_world.proofs.AskedPackages.{IsToldOf, one_more}
use Rattle.view_world.proofs.Looked.{looked_stands, looked_then}
use Rattle.view_world.proofs.asking.ask_among.Goals as goal

pub returns-in_err-answer-clause-read : goal.returns-in_err-answer-clause-read
returns-in_err-answer-clause-read g c =
    looked_then g.S.Store c.args.world.now c.loop-sight.world c.ask_one.new.world c.loop-sight.invariant.read
    (inr c.in_err-answer.ensures.read)

pub returns-in_err-push-clause-read : goal.returns-in_err-push-clause-read
returns-in_err-push-clause-read g c =
    looked_then g.S.Store c.args.world.now c.loop-sight.world c.ask_one.new.world c.loop-sight.invariant.read
    (inr c.in_ok-answer.ensures.read)

pub loop-sight-preserved : goal.loop-sight-preserved
loop-sight-preserved g c = record {
  read = looked_then g.S.Store c.args.world.now c.loop-sight.world c.ask_one.new.world c.loop-sight.invariant.read
      (inr c.in_ok-answer.ensures.read);
  opens = λ clean was_open. c.in_ok-answer.ensures.opens clean
      (c.loop-sight.invariant.opens (c.in_ok-answer.ensures.read.clean clean) was_open);
  told = λ clean w stands.
      let before = c.in_ok-answer.ensures.read.clean clean in
      let now = looked_stands g.S.Store c.args.world.now c.loop-sight.world c.loop-sight.invariant.read w stands in
      let so_far = c.loop-sight.invariant.told before w stands in
      let here = c.in_ok-answer.ensures.told clean w now in
      let more = one_more (g.Q.Question.tells c.args.question.now) w c.args.sights.now c.loop-sight.answers.items
      c.loop-sight.sight-index c.sight-item.result c.in_ok-answer.answer c.loop-sight-test.true c.sight-item.is
      so_far here in
      subst (λ xs. AllZip (IsToldOf (g.Q.Question.tells c.args.question.now) w)
      (take (c.loop-sight.sight-index + 1) c.args.sights.now) xs)
      (sym (chosen _ _ _ _ c.push.ensures.items (ap is_ok c.in_ok-push.was))) more;
}

pub returns-clause-told : goal.returns-clause-told
returns-clause-told g c = λ clean w stands.
    subst (λ l. AllZip (IsToldOf (g.Q.Question.tells c.args.question.now) w) l c.loop-sight.answers.items)
    (take_all c.loop-sight.sight-index c.args.sights.now c.loop-sight-test.false)
    (c.loop-sight.invariant.told clean w stands)

pub returns-clause-opens : goal.returns-clause-opens
returns-clause-opens g c = c.loop-sight.invariant.opens
