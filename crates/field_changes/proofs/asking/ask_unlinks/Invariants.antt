use Rattle.std.proofs.Common.{◌≡◌, ◌++◌, take, map}
use Rattle.field_changes.specs.Ids.{request_of}
use Rattle.field_changes.specs.Asked.{unlinking}
use Rattle.field_changes.proofs.asking.ask_unlinks.Given as goal

-- those so far
abbrev pub invariant-loop-link : goal.invariant-loop-link
invariant-loop-link l = l.requests.items ≡ l.initial.requests.items
    ++ map (request_of l.asker.«package» l.asker.ticket l.asker.at.now)
    (map (unlinking l.asker.«package») (take l.link-index l.links))
