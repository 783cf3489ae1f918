-- One request more.
use Rattle.std.proofs.Common.{ap, is_ok}
use Rattle.std.proofs.ResultArms.{chosen}
use Rattle.field_changes.specs.Ids.{request_of}
use Rattle.field_changes.specs.Asked.{deleting}
use Rattle.field_changes.proofs.Listing.{asked_more}
use Rattle.field_changes.proofs.asking.ask_deletes.Goals as goal

pub loop-identity-preserved : goal.loop-identity-preserved
loop-identity-preserved c =
    let p = c.args.asker.now.«package» in
    asked_more (request_of p c.args.asker.now.ticket c.args.asker.now.at.now) (deleting p) c.args.ids.now
    c.loop-identity.identity-index c.identity-item.result c.args.requests.now.items c.loop-identity.requests.items
    c.push.new.self.items c.in_ok-request.request c.loop-identity-test.true c.identity-item.is
    c.loop-identity.invariant
    (chosen _ _ _ _ c.push.ensures.items (ap is_ok c.in_ok-push.was)) c.in_ok-request.ensures
