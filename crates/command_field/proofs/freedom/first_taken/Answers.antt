-- One request more was asked of.
use Rattle.command_requests.proofs.Untouched.{clean_before, stands_after, untouched_both}
use Rattle.command_field.specs.Freedom.{takes, IsNewIn}
use Rattle.command_field.proofs.Ids.{all_more, any_item}
use Rattle.command_field.proofs.freedom.first_taken.Goals as goal

pub returns-in_err-taken-clause-read : goal.returns-in_err-taken-clause-read
returns-in_err-taken-clause-read g c =
    untouched_both g.S.Store c.args.world.now c.loop-request.world c.taken_by.new.world c.loop-request.invariant.read
    c.in_err-taken.ensures.read

pub returns-in-Some-clause-read : goal.returns-in-Some-clause-read
returns-in-Some-clause-read g c =
    untouched_both g.S.Store c.args.world.now c.loop-request.world c.taken_by.new.world c.loop-request.invariant.read
    c.in_ok-taken.ensures.read

pub returns-in-Some-clause-told : goal.returns-in-Some-clause-told
returns-in-Some-clause-told g c = λ clean w stands.
    let now = stands_after g.S.Store c.args.world.now c.loop-request.world c.loop-request.invariant.read w stands in
    let told = rw c.in-Some.is at c.in_ok-taken.ensures.told in
    any_item (takes w c.in-Some.taken) c.args.requests.now c.loop-request.request-index c.request-item.result
    c.loop-request-test.true c.request-item.is (told clean w now)

pub loop-request-preserved : goal.loop-request-preserved
loop-request-preserved g c = record {
  read = untouched_both g.S.Store c.args.world.now c.loop-request.world c.taken_by.new.world
      c.loop-request.invariant.read c.in_ok-taken.ensures.read;
  told = λ clean w stands.
      let before = clean_before g.S.Store c.loop-request.world c.taken_by.new.world c.in_ok-taken.ensures.read clean in
      let now = stands_after g.S.Store c.args.world.now c.loop-request.world c.loop-request.invariant.read w stands in
      let told = rw c.in_default.is at c.in_ok-taken.ensures.told in
      all_more (IsNewIn w) c.args.requests.now c.loop-request.request-index c.request-item.result
      c.loop-request-test.true c.request-item.is (c.loop-request.invariant.told before w stands) (told clean w now);
}
