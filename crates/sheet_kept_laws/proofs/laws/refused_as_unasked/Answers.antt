use Rattle.sheet_kept_laws.proofs.laws.refused_as_unasked.Goals as goal
use Rattle.sheet_kept_laws.proofs.Unasked.{refused_as_unasked}

pub returns : goal.returns
returns c = refused_as_unasked
