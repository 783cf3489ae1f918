use Rattle.sheet_examples.proofs.Replies.{refused_changes_nothing}
use Rattle.sheet_examples.proofs.steps.refused_changes_nothing.Goals as goal

pub returns : goal.returns
returns c = refused_changes_nothing
