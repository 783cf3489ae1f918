-- Each world keeps what the model of its fields says.
use Rattle.std.proofs.Common.{subst}
use Rattle.world.specs.Worlds.{IsHeld}
use Rattle.world.proofs.world.World.has_failed.Goals as goal

pub returns-clause-held : goal.returns-clause-held
returns-clause-held g c = subst (IsHeld g.S.Store) c.self.view_is c.self.invariant.0
