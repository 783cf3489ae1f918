-- The packages that are asked are those of the world.
use Rattle.std.proofs.Common.{◌∙◌, ap, map, to_z-of_z}
use Rattle.world.specs.Reading.{sight_of}
use Rattle.views.proofs.Gathered.{of_world}
use Rattle.views.proofs.gathering.holders_of.Goals as goal

pub returns-clause-told : goal.returns-clause-told
returns-clause-told g c = λ clean.
    of_world g.S.Store (λ v. v.items) c.args.zoom c.args.world.now c.as_slice.result.now c.holders_among.result
    (λ w stands. ap (map sight_of) c.as_slice.ensures.value ∙ c.in_ok-sights.ensures w stands)
    (simp (to_z-of_z, c.ranges.zoom) at c.holders_among.ensures.told clean)

pub returns-clause-opens : goal.returns-clause-opens
returns-clause-opens g c = c.holders_among.ensures.opens
