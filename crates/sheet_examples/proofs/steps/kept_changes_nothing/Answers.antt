use Rattle.sheet_examples.proofs.Replies.{kept_changes_nothing}
use Rattle.sheet_examples.proofs.steps.kept_changes_nothing.Goals as goal

pub returns : goal.returns
returns c = kept_changes_nothing
