use Rattle.view_text.proofs.Standing.{stands_where_told}
use Rattle.view_text.proofs.laws.stands_where_told.Goals as goal

pub returns : goal.returns
returns c = stands_where_told
