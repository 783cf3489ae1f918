use Rattle.sheet_examples.proofs.opening.new_store_stands.Goals as goal
use Rattle.sheet_examples.proofs.Stores.{new_store_stands}

pub returns : goal.returns
returns c = new_store_stands
