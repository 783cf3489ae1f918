use Rattle.std.proofs.Common.{◌≡◌, ◌++◌, take, map}
use Rattle.field_changes.specs.Ids.{request_of}
use Rattle.field_changes.specs.Asked.{linking}
use Rattle.field_changes.proofs.asking.ask_links.Given as goal

-- those so far
abbrev pub invariant-loop-link : goal.invariant-loop-link
invariant-loop-link l = l.requests.items ≡ l.initial.requests.items
    ++ map (request_of l.asker.«package» l.asker.ticket l.asker.at.now)
    (map (linking l.asker.«package») (take l.link-index l.links))
