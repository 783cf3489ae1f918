-- What the stores told, and what the world has in hand.
use Rattle.promises.proofs.Shown.{looks}
use Rattle.promises.proofs.running.look.Goals as goal

pub returns-in-Ok-packages : goal.returns-in-Ok-packages
returns-in-Ok-packages g c =
    looks g.S.Store c.args.«package» c.args.world.now c.holdings.new.self
    (record { packages = c.in-Ok-packages.packages; sums = c.sums-sums.result; holdings = c.in-Ok.holdings })
    c.holdings.result c.in-Ok.is c.holdings.ensures.told c.holdings.ensures.read c.sums-sums.ensures
    c.in-Ok-packages.ensures
