-- One more was asked.
use Rattle.std.proofs.Common.{◌<◌, ◌≤◌, ◌+◌, sym, ap, subst, is_ok, length, arith}
use Rattle.std.proofs.ResultArms.{chosen}
use Rattle.view_history.proofs.Asked.{Asked, asked_none, asked_more, asks_broken, asks_all}
use Rattle.view_history.proofs.asking.ask_each.Goals as goal

pub loop-at-init : goal.loop-at-init
loop-at-init g c = record {
  asked = subst (Asked g.S.Store (g.Q.Question.tells c.args.question.now) c.args.stores.now.items
      c.args.stores.now.items 0) (sym c.new-answers.ensures.items)
      (asked_none g.S.Store (g.Q.Question.tells c.args.question.now) c.args.stores.now.items c.requires);
}

pub returns-in_err-answer : goal.returns-in_err-answer
returns-in_err-answer g c =
    let within : c.loop-at.at < length c.args.stores.now.items =
    omega (arith, c.loop-at-test.true, c.len-at-end.ensures) in
    asks_broken g.S.Store (g.Q.Question.tells c.args.question.now) _ _ _ _ _ _ within c.loop-at.invariant.asked
    c.ask_at.ensures _ g.met.S.Store.shut_if_dirty g.met.S.Store.settled _ c.from_residual.ensures.0

pub returns-in_err-push : goal.returns-in_err-push
returns-in_err-push g c =
    let within : c.loop-at.at < length c.args.stores.now.items =
    omega (arith, c.loop-at-test.true, c.len-at-end.ensures) in
    asks_broken g.S.Store (g.Q.Question.tells c.args.question.now) _ _ _ _ _ _ within c.loop-at.invariant.asked
    c.ask_at.ensures _ g.met.S.Store.shut_if_dirty g.met.S.Store.settled _ c.from_residual-in_err-push.ensures.0

pub loop-at-preserved : goal.loop-at-preserved
loop-at-preserved g c =
    let within : c.loop-at.at < length c.args.stores.now.items =
    omega (arith, c.loop-at-test.true, c.len-at-end.ensures) in
    record {
      asked = subst (Asked g.S.Store (g.Q.Question.tells c.args.question.now) c.args.stores.now.items _
          (c.loop-at.at + 1)) (sym (chosen _ _ _ _ c.push.ensures.items (ap is_ok c.in_ok-push.was)))
          (asked_more g.S.Store (g.Q.Question.tells c.args.question.now) _ _ _ _ _ _ within c.loop-at.invariant.asked
          c.ask_at.ensures _ c.in_ok-answer.was);
    }

pub returns : goal.returns
returns g c =
    let past : length c.args.stores.now.items ≤ c.loop-at.at =
    omega (arith, c.len-at-end.ensures, c.loop-at-test.false) in
    asks_all g.S.Store (g.Q.Question.tells c.args.question.now) _ _ _ _ past c.loop-at.invariant.asked _ _
    (λ packages each. each)
