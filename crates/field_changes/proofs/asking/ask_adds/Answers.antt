-- One request more.
use Rattle.std.proofs.Common.{rules, ◌≡◌, ◌∷◌, true}
use Rattle.std.specs.Result.{is_ok}
use Rattle.std.specs.Vec.Iter.{into_iter_items}
use Rattle.field_changes.specs.Ids.{request_of}
use Rattle.field_changes.specs.Asked.{adding}
use Rattle.field_changes.proofs.Listing.{asked_next}
use Rattle.field_changes.proofs.asking.ask_adds.Goals as goal

pub loop-item-preserved : goal.loop-item-preserved
loop-item-preserved c =
    let p = c.args.asker.now.«package» in
    let f = request_of p c.args.asker.now.ticket c.args.asker.now.at.now in
    let good : is_ok c.push.result ≡ true = search rules in
    let items = rw good at c.push.ensures.items in
    let next : into_iter_items c.loop-item.item-iterator ≡ c.in-Some.item ∷ into_iter_items c.next.new.self =
    search rules in
    asked_next f (adding p) _ (into_iter_items c.loop-item.item-iterator) (into_iter_items c.next.new.self)
    c.in-Some.item c.loop-item.requests.items c.push.new.self.items c.in_ok-request.request next items
    c.in_ok-request.ensures c.loop-item.invariant
