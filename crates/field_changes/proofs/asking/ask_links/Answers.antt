-- One request more.
use Rattle.std.proofs.Common.{◌≡◌, ◌∙◌, ◌++◌, ap, map, is_ok, arith}
use Rattle.std.proofs.ResultArms.{chosen}
use Rattle.std.proofs.lemmas.List.{take_all}
use Rattle.field_changes.specs.Ids.{request_of}
use Rattle.field_changes.specs.Asked.{linking}
use Rattle.field_changes.proofs.Listing.{asked_more}
use Rattle.field_changes.proofs.asking.ask_links.Goals as goal

pub loop-link-preserved : goal.loop-link-preserved
loop-link-preserved c =
    let p = c.args.asker.now.«package» in
    let n = c.args.asker.now.ticket in
    let m = c.args.asker.now.at.now in
    asked_more (request_of p n m) (linking p) c.args.links.now c.loop-link.link-index c.link-item.result
    c.args.requests.now.items c.loop-link.requests.items c.push.new.self.items c.in_ok-request.request
    c.loop-link-test.true c.link-item.is c.loop-link.invariant
    (chosen _ _ _ _ c.push.ensures.items (ap is_ok c.in_ok-push.was)) (c.in_ok-request.ensures)

pub returns : goal.returns
returns c =
    let p = c.args.asker.now.«package» in
    c.loop-link.invariant ∙ ap (λ l. c.args.requests.now.items
    ++ map (request_of p c.args.asker.now.ticket c.args.asker.now.at.now) (map (linking p) l))
    (take_all c.loop-link.link-index c.args.links.now (omega (arith, c.loop-link-test.false)))
