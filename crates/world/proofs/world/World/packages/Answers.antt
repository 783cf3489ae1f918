-- The members are listed as the packages that they stand for.
use Rattle.std.proofs.Common.{◌∙◌, ap}
use Rattle.world.proofs.Sights.{listed}
use Rattle.world.proofs.world.World.packages.Goals as goal

pub returns : goal.returns
returns g c = listed g.S.Store (λ sights. sights.items) c.sights_of.result c.as_slice.result.now c.args.self.now
    (c.as_slice.ensures.value ∙ ap (λ s. s.members) c.self.view_is) c.sights_of.ensures
