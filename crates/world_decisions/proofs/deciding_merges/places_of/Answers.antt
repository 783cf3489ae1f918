-- A package that has no member is not live.
use Rattle.std.proofs.Common.{◌∙◌, ap}
use Rattle.std.specs.Prelude.{◌&&◌}
use Rattle.sheet_types.specs.World.{is_live}
use Rattle.world_decisions.proofs.deciding_merges.places_of.Goals as goal

pub returns-in_default-clause-none : goal.returns-in_default-clause-none
returns-in_default-clause-none g c = λ w n are. ap (λ b. b && is_live w c.args.into)
    (c.in_default.ensures.dead w n are)

pub returns-in_default-place_of-clause-none : goal.returns-in_default-place_of-clause-none
returns-in_default-place_of-clause-none g c = λ w n are. ap (λ b. b && is_live w c.args.into)
    (c.in-Some.ensures.live w n are) ∙ c.in_default-place_of.ensures.dead w n are
