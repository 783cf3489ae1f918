use Rattle.std.proofs.Common.{◌≡◌, ◌++◌, take, map}
use Rattle.field_changes.specs.Ids.{request_of}
use Rattle.field_changes.specs.Asked.{deleting}
use Rattle.field_changes.proofs.asking.ask_deletes.Given as goal

-- those so far
abbrev pub invariant-loop-identity : goal.invariant-loop-identity
invariant-loop-identity l = l.requests.items ≡ l.initial.requests.items
    ++ map (request_of l.asker.«package» l.asker.ticket l.asker.at.now)
    (map (deleting l.asker.«package») (take l.identity-index l.ids))
