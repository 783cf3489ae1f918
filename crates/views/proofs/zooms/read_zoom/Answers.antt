use Rattle.views.proofs.ZoomWords.{no_zoom}
use Rattle.views.proofs.zooms.read_zoom.Goals as goal

pub returns-in-None-clause-none : goal.returns-in-None-clause-none
returns-in-None-clause-none c = no_zoom c.args.text.now c.in-None.ensures.none
