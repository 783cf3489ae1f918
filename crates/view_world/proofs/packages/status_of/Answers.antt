-- There are as many stores as packages, so each is that of its package.
use Rattle.std.proofs.Common.{◌≡◌, ℕ, length, refl}
use Rattle.sheet_types.specs.World.{World}
use Rattle.world.specs.Worlds.{StandsFor, held}
use Rattle.view_world.specs.Kept.{AreKept}
use Rattle.view_world.proofs.Answers.{kept_counted, if_ok_so}
use Rattle.view_world.proofs.HeldStores.{looks_into}
use Rattle.view_world.proofs.Rows.{long_seen}
use Rattle.view_world.proofs.packages.status_of.Goals as goal

pub returns : goal.returns
returns g c =
    looks_into g.S.Store _ c.args.world c.table_of-text.new.stores.items c.table_of-text.result
    (kept_counted (λ n. (w : World) → StandsFor g.S.Store c.args.world w → n ≡ length w.packages)
    (λ k. length k.sights.items) c.table_of-text.result c.kept_of-kept.result
    (length (held g.S.Store c.args.world))
    (rw c.into_stores-stores.ensures at c.table_of-text.ensures.counted)
    (if_ok_so _ _ c.kept_of-kept.result (λ k so w stands. long_seen w k.sights.items (so w stands).seen)
    c.kept_of-kept.ensures.kept))
    (λ w text stands given. given w refl
    (if_ok_so _ (λ k. AreKept w k.sights.items k.sums.items) c.kept_of-kept.result (λ k so. so w stands)
    c.kept_of-kept.ensures.kept))
    (rw c.into_stores-stores.ensures at c.table_of-text.ensures.asked)
