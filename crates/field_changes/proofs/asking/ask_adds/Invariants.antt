use Rattle.std.proofs.Common.{◌≡◌, ◌++◌, map}
use Rattle.std.specs.Vec.Iter.{into_iter_items}
use Rattle.field_changes.specs.Ids.{request_of}
use Rattle.field_changes.specs.Asked.{adding}
use Rattle.field_changes.proofs.asking.ask_adds.Given as goal

-- those so far, and those that are left
abbrev pub invariant-loop-item : goal.invariant-loop-item
invariant-loop-item l = l.initial.requests.items ++ map (request_of l.asker.«package» l.asker.ticket l.asker.at.now)
    (map (adding l.asker.«package») l.fn.items.items)
    ≡ l.requests.items ++ map (request_of l.asker.«package» l.asker.ticket l.asker.at.now)
    (map (adding l.asker.«package») (into_iter_items l.item-iterator))
