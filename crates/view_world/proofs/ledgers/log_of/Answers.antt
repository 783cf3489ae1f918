-- There are as many stores as packages, so each is that of its package.
use Rattle.std.proofs.Common.{◌≡◌, ℕ, length, subst}
use Rattle.sheet_types.specs.World.{World}
use Rattle.world.specs.Worlds.{StandsFor, held}
use Rattle.view_world.specs.Looks.{Asks}
use Rattle.view_world.proofs.Answers.{counted_so}
use Rattle.view_world.proofs.HeldStores.{looks_into}
use Rattle.view_world.proofs.ledgers.log_of.Goals as goal

pub returns : goal.returns
returns g c =
    looks_into g.S.Store _ c.args.world c.log_in-text.new.stores.items c.log_in-text.result
    (counted_so (λ n. (w : World) → StandsFor g.S.Store c.args.world w → n ≡ length w.packages)
    c.log_in-text.result
    c.count_of-count.result (length (held g.S.Store c.args.world))
    (rw c.into_stores-stores.ensures at c.log_in-text.ensures.counted) c.count_of-count.ensures)
    (λ w text stands given. given)
    (rw c.into_stores-stores.ensures at c.log_in-text.ensures.asked)
