-- The four parts, one behind the other.
use Rattle.std.proofs.Common.{◌∙◌, ◌++◌, ap, map}
use Rattle.field_changes.specs.Ids.{request_of}
use Rattle.field_changes.specs.Asked.{unlinking, deleting, adding, linking}
use Rattle.field_changes.proofs.Listing.{four_parts}
use Rattle.field_changes.proofs.asking.requests.Goals as goal

pub returns : goal.returns
returns c =
    let p = c.args.asker.now.«package» in
    let n = c.args.asker.now.ticket in
    let m = c.args.asker.now.at.now in
    let parts = c.args.parts in
    four_parts (request_of p n m) (map (unlinking p) parts.unlinks.items) (map (deleting p) parts.deletes.items)
    (map (adding p) parts.adds.items) (map (linking p) parts.links.items)
    c.new-requests.result.items c.ask_unlinks.new.requests.items c.ask_deletes.new.requests.items
    c.ask_adds.new.requests.items c.ask_links.new.requests.items
    c.new-requests.ensures.items
    (c.in_ok-ask_unlinks.ensures ∙ ap (λ l. c.new-requests.result.items
    ++ map (request_of p n m) (map (unlinking p) l)) c.as_slice.ensures.value)
    (c.in_ok-ask_deletes.ensures ∙ ap (λ l. c.ask_unlinks.new.requests.items
    ++ map (request_of p n m) (map (deleting p) l)) c.as_slice-2.ensures.value)
    c.in_ok-ask_adds.ensures
    (c.in_ok-ask_links.ensures ∙ ap (λ l. c.ask_adds.new.requests.items
    ++ map (request_of p n m) (map (linking p) l))
    c.as_slice-3.ensures.value)
