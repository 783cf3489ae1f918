-- The splits are those of the world.
use Rattle.sheet_balance.proofs.Undoing.{together_answer}
use Rattle.sheet_balance.proofs.merges.are_together.Goals as goal

pub returns : goal.returns
returns c = together_answer c.args.splits.now c.args.sights.now c.all_together.result c.all_together.ensures
