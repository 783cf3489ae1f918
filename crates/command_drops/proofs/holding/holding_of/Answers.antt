-- The packages that were listed are those that live.
use Rattle.std.proofs.Common.{◌∙◌, ap, map}
use Rattle.command_verbs.specs.Names.{sight}
use Rattle.command_drops.proofs.Held.{held_in}
use Rattle.command_drops.proofs.holding.holding_of.Goals as goal

pub returns-clause-told : goal.returns-clause-told
returns-clause-told g c = λ clean w stands.
    held_in w c.args.id c.as_slice.result.now c.in_ok-found.found
    (ap (map sight) c.as_slice.ensures.value ∙ c.in_ok-packages.ensures w stands)
    (c.in_ok-found.ensures.told clean w stands)
