use Rattle.std.proofs.Common.{◌∙◌, ap, map}
use Rattle.commands.proofs.WhatIsTold.{uuids_seen}
use Rattle.commands.proofs.registers.live_of.Goals as goal

pub returns : goal.returns
returns g c = λ w stands.
    c.in_ok-live.ensures ∙ ap (map (λ s. s.uuid)) c.deref.ensures.value
    ∙ uuids_seen w c.in_ok-sights.sights.items (c.in_ok-sights.ensures w stands)
