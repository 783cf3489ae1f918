-- One tile more.
use Rattle.field_faults.proofs.Places.{tiles_more}
use Rattle.field_faults.proofs.lines.tiles_in.Goals as goal

pub loop-item-preserved : goal.loop-item-preserved
loop-item-preserved c =
    tiles_more c.args.items.now c.loop-item.item-index c.item-item.result c.loop-item-test.true c.item-item.is
    c.loop-item.tiles c.note_tile.new.tiles c.loop-item.invariant c.in_ok-note_tile.ensures
