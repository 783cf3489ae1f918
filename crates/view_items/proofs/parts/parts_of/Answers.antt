-- What is kept of one item more stands behind the rest.
use Rattle.view_items.proofs.Found.{kept_more}
use Rattle.view_items.proofs.parts.parts_of.Goals as goal

pub loop-item-preserved : goal.loop-item-preserved
loop-item-preserved g c =
    kept_more (g.P.Part.parts c.args.part.now) c.args.items.now c.loop-item.item-index c.item-item.result
    c.loop-item.kept.items c.put.new.kept.items
    c.loop-item-test.true c.item-item.is c.loop-item.invariant c.in_ok-put.ensures
