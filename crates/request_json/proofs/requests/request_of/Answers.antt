use Rattle.std.proofs.Common.{◌≡◌, false, IsTrue, rules}
use Rattle.serde_json.specs.View.{view}
use Rattle.request_json.proofs.OneRequest.{more_members}
use Rattle.request_json.proofs.requests.request_of.Goals as goal

pub returns-then-not-has_no_more_than-clause-none : goal.returns-then-not-has_no_more_than-clause-none
returns-then-not-has_no_more_than-clause-none c =
    let asked = rw c.in-Some-3.is at c.in_ok-command.ensures.some in
    let more : IsTrue c.has_no_more_than.result → ⊥ = search rules in
    more_members (view c.args.value.now) c.in-Some-3.command asked (λ only. more (c.has_no_more_than.ensures.1 only))
