use Rattle.std.proofs.Common.{◌≡◌, ◌∙◌, ◌++◌, ap, rules}
use Rattle.desk_calls.proofs.CallFacts.{uuid_named}
use Rattle.desk_calls.proofs.judging.uuid_between.Goals as goal

pub returns : goal.returns
returns c =
    let front : c.args.path.now ≡ c.args.front.now ++ c.in_ok-rest.rest.now = search rules in
    let back : c.in_ok-rest.rest.now ≡ c.in_ok-text.text.now ++ c.args.back.now = search rules in
    uuid_named c.args.front.now c.args.back.now c.args.path.now c.in_ok-text.text.now c.read_uuid.result
    (front ∙ ap (λ l. c.args.front.now ++ l) back) c.read_uuid.ensures
