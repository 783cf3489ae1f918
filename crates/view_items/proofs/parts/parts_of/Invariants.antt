-- What is kept of the items so far.
use Rattle.std.proofs.Common.{◌≡◌, take}
use Rattle.std.specs.Prelude.{flat_map}
use Rattle.view_items.proofs.parts.parts_of.Given as goal

abbrev pub invariant-loop-item : goal.invariant-loop-item
invariant-loop-item g l = l.kept.items ≡ flat_map (g.P.Part.parts l.fn.part) (take l.item-index l.items)
