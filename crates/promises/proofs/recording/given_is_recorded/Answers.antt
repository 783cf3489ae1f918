-- By the calls that a shelf is used by.
use Rattle.promises.proofs.Given.{recorded}
use Rattle.promises.proofs.recording.given_is_recorded.Goals as goal

pub returns : goal.returns
returns g c = recorded g.H.Shelf.asks g.H.Shelf.takes
