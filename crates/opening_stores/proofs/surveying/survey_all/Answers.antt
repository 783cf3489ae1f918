-- One more was looked at.
use Rattle.std.proofs.Common.{◌<◌, ◌+◌, sym, ap, subst, is_ok, length, arith}
use Rattle.std.proofs.ResultArms.{chosen}
use Rattle.opening_stores.proofs.LookedAt.{Surveyed, surveyed_more, read_failed, rests_new}
use Rattle.opening_stores.proofs.surveying.survey_all.Goals as goal

pub returns-in_err-seen-clause-read : goal.returns-in_err-seen-clause-read
returns-in_err-seen-clause-read g c =
    let within : c.loop-at.at < length c.args.stores.now.items =
    omega (arith, c.loop-at-test.true, c.len-count.ensures) in
    read_failed g.S.Store _ _ _ _ _ _ within c.loop-at.invariant.surveyed c.survey_at.ensures.looked
    g.met.S.Store.shut_if_dirty g.met.S.Store.settled

pub returns-in_err-seen-clause-rests : goal.returns-in_err-seen-clause-rests
returns-in_err-seen-clause-rests g c =
    let within : c.loop-at.at < length c.args.stores.now.items =
    omega (arith, c.loop-at-test.true, c.len-count.ensures) in
    rests_new g.S.Store _ _ _ _ _ _ within c.loop-at.invariant.surveyed c.survey_at.ensures.looked

pub returns-in_err-push-clause-read : goal.returns-in_err-push-clause-read
returns-in_err-push-clause-read g c =
    let within : c.loop-at.at < length c.args.stores.now.items =
    omega (arith, c.loop-at-test.true, c.len-count.ensures) in
    read_failed g.S.Store _ _ _ _ _ _ within c.loop-at.invariant.surveyed c.survey_at.ensures.looked
    g.met.S.Store.shut_if_dirty g.met.S.Store.settled

pub returns-in_err-push-clause-rests : goal.returns-in_err-push-clause-rests
returns-in_err-push-clause-rests g c =
    let within : c.loop-at.at < length c.args.stores.now.items =
    omega (arith, c.loop-at-test.true, c.len-count.ensures) in
    rests_new g.S.Store _ _ _ _ _ _ within c.loop-at.invariant.surveyed c.survey_at.ensures.looked

pub loop-at-preserved : goal.loop-at-preserved
loop-at-preserved g c =
    let within : c.loop-at.at < length c.args.stores.now.items =
    omega (arith, c.loop-at-test.true, c.len-count.ensures) in
    record {
      surveyed = subst (Surveyed g.S.Store c.args.stores.now.items _ (c.loop-at.at + 1))
          (sym (chosen _ _ _ _ c.push.ensures.items (ap is_ok c.in_ok-push.was)))
          (surveyed_more g.S.Store _ _ _ _ _ _ within c.loop-at.invariant.surveyed c.survey_at.ensures.looked _
          c.in_ok-seen.was);
    }
