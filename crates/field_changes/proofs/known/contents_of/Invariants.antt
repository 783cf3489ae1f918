use Rattle.std.proofs.Common.{◌≡◌, map, take}
use Rattle.field_changes.proofs.known.contents_of.Given as goal

-- those so far
abbrev pub invariant-loop-item : goal.invariant-loop-item
invariant-loop-item l = map (λ c. c.now) l.contents.items ≡ map (λ i. i.content) (take l.item-index l.items)
