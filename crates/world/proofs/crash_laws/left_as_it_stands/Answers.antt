-- What is open and at rest leaves what it holds.
use Rattle.world.proofs.Keeping.{left_as_it_stands}
use Rattle.world.proofs.crash_laws.left_as_it_stands.Goals as goal

pub returns : goal.returns
returns g c = left_as_it_stands g.S.Store g.met.S.Store.shut_if_dirty g.met.S.Store.settled
