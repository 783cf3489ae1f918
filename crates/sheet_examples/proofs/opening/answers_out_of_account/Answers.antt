use Rattle.sheet_examples.proofs.opening.answers_out_of_account.Goals as goal
use Rattle.sheet_examples.proofs.Stores.{out_of_account}

pub returns : goal.returns
returns c = out_of_account
