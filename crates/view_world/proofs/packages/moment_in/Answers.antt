-- The first package that has it tells it.
use Rattle.std.proofs.Common.{◌∙◌}
use Rattle.view_history.proofs.Dates.{moment_among}
use Rattle.view_world.proofs.packages.moment_in.Goals as goal

pub returns-clause-told : goal.returns-clause-told
returns-clause-told g c = λ clean w stands.
    c.first_found.ensures ∙ moment_among c.args.number w.packages c.in_ok-found.found.items
    (c.in_ok-found.ensures.told clean w stands)

pub returns-clause-opens : goal.returns-clause-opens
returns-clause-opens g c = c.in_ok-found.ensures.opens
