use Rattle.std.proofs.Common.{take}
use Rattle.field_faults.specs.Lines.{HasTiles}
use Rattle.field_faults.proofs.lines.tiles_in.Given as goal

-- those so far
abbrev pub invariant-loop-item : goal.invariant-loop-item
invariant-loop-item l = HasTiles (take l.item-index l.items) l.tiles
