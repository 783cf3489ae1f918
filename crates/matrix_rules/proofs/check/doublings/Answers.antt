use Rattle.matrix_rules.proofs.Products.{doublings_range, shifted}
use Rattle.matrix_rules.proofs.check.doublings.Goals as goal

pub returns-clause-power : goal.returns-clause-power
returns-clause-power c = shifted c.args.times c.requires.0 c.requires.1

pub returns-clause-range : goal.returns-clause-range
returns-clause-range c = rw (shifted c.args.times c.requires.0 c.requires.1)
    (doublings_range c.args.times c.requires.0 c.requires.1)
