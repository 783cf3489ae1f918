-- The deletion comes behind the ends of the links.
use Rattle.std.proofs.Common.{rules, ◌≡◌, true}
use Rattle.std.specs.Result.{is_ok}
use Rattle.command_plans.proofs.Asked.{asked_one, given_more}
use Rattle.command_plans.proofs.drops.drop_requests.Goals as goal

pub returns-clause-asks : goal.returns-clause-asks
returns-clause-asks g c =
    let good : is_ok c.push.result ≡ true = search rules in
    let items = rw good at c.push.ensures.items in
    rw items (asked_one _ _ _ _ c.in_ok-request.request c.in_ok-requests.ensures.asks c.in_ok-request.ensures.asks.0
    c.in_ok-request.ensures.asks.1)

pub returns-clause-gives : goal.returns-clause-gives
returns-clause-gives g c =
    let good : is_ok c.push.result ≡ true = search rules in
    let items = rw good at c.push.ensures.items in
    rw items (given_more g.N.Identities.gives c.in_ok-requests.requests.items c.in_ok-request.request
    c.args.identities.now c.unlink_requests.new.identities c.request_from.new.identities
    c.in_ok-requests.ensures.gives c.in_ok-request.ensures.gives)
