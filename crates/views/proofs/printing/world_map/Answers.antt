-- The frame is that of the world.
use Rattle.std.proofs.Common.{◌∙◌, ap, to_z-of_z}
use Rattle.view_map.specs.Maps.{map_text}
use Rattle.views.proofs.Printed.{made_of}
use Rattle.views.proofs.printing.world_map.Goals as goal

pub returns-in-Ok-clause-told : goal.returns-in-Ok-clause-told
returns-in-Ok-clause-told g c = λ clean w stands.
    let are = simp (to_z-of_z, c.ranges.zoom) at c.in_ok-holders.ensures.told clean w stands in
    let made = simp (to_z-of_z, c.ranges.zoom) at c.in-Ok.ensures in
    made_of w c.args.frame.now c.args.zoom c.in_ok-holders.holders.items _ (c.requires.own ∙ stands.frame) are
    (made ∙ ap (λ hs. map_text c.args.frame.now c.args.zoom hs) c.as_slice.ensures.value)

pub returns-in-Ok-clause-opens : goal.returns-in-Ok-clause-opens
returns-in-Ok-clause-opens g c = c.in_ok-holders.ensures.opens
