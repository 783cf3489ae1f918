-- One more link is asked to end.
use Rattle.std.proofs.Common.{rules, ◌≡◌, ◌∙◌, refl, true}
use Rattle.std.specs.Result.{is_ok}
use Rattle.command_plans.specs.Drops.{unlink}
use Rattle.command_plans.proofs.Asked.{asked_more, given_more}
use Rattle.command_plans.proofs.drops.unlink_requests.Goals as goal

pub loop-link-init : goal.loop-link-init
loop-link-init g c =
    rw c.new-requests.ensures.items (record { asked = record { order = refl; moment = tt }; given = refl })

pub loop-link-preserved : goal.loop-link-preserved
loop-link-preserved g c =
    let good : is_ok c.push.result ≡ true = search rules in
    let items = rw good at c.push.ensures.items in
    record {
      asked = rw items (asked_more c.args.at.now (unlink c.args.holder) c.args.links.now c.loop-link.link-index
          c.link-item.result c.loop-link.requests.items c.in_ok-request.request
          c.loop-link-test.true c.link-item.is c.loop-link.invariant.asked
          (c.in_ok-request.ensures.asks.0 ∙ c.unlink.ensures) c.in_ok-request.ensures.asks.1);
      given = rw items (given_more g.N.Identities.gives c.loop-link.requests.items c.in_ok-request.request
          c.args.identities.now c.loop-link.identities c.request_from.new.identities
          c.loop-link.invariant.given c.in_ok-request.ensures.gives);
    }
