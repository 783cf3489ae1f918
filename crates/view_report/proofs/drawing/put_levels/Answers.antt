use Rattle.view_report.proofs.Texts.{level_more, no_level}
use Rattle.view_report.proofs.drawing.put_levels.Goals as goal

pub loop-index-init : goal.loop-index-init
loop-index-init c = no_level c.args.register.now c.args.total _

pub loop-index-preserved : goal.loop-index-preserved
loop-index-preserved c =
    level_more c.args.register.now c.args.total _ _ _ c.loop-index.index c.loop-index.invariant
    c.in_ok-put_level_if.ensures
