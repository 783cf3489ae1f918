-- By what each request gives it.
use Rattle.promises.proofs.Given.{given_none}
use Rattle.promises.proofs.recording.none_without_a_merge.Goals as goal

pub returns : goal.returns
returns g c = given_none g.H.Shelf.asks g.H.Shelf.takes
