-- The items so far are bare of what was told.
use Rattle.std.proofs.Common.{take}
use Rattle.std.specs.List.{AllZip}
use Rattle.views.specs.ByItems.{IsBareOf}
use Rattle.views.proofs.by_items.bare_items.Given as goal

abbrev pub invariant-loop-moved : goal.invariant-loop-moved
invariant-loop-moved l = AllZip IsBareOf (take l.moved-index l.told) l.items.items
