use Rattle.identity_register.proofs.Moments.{dated_steps, same_steps}
use Rattle.identity_register.proofs.dating.date_contents.Goals as goal

pub returns-clause-dated : goal.returns-clause-dated
returns-clause-dated g c = dated_steps c.args.at.now c.set_last_change.ensures.wrote c.set_last_change.ensures.survives

pub returns-clause-steps : goal.returns-clause-steps
returns-clause-steps g c = same_steps c.args.at.now (returns-clause-dated g c)
