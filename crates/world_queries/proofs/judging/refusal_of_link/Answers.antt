-- A link comes in between items of its kinds, where it is not there yet.
use Rattle.std.proofs.Common.{◌∙◌, ap}
use Rattle.world_members.specs.Reasons.{reason_told}
use Rattle.world_members.proofs.Seeing.{seen, judges}
use Rattle.world_members.proofs.FirstRows.{IsState, reason_is}
use Rattle.world_queries.proofs.judging.refusal_of_link.Goals as goal

pub returns : goal.returns
returns g c =
    judges (seen (IsState c.args.relation) c.in_ok-found.was c.link_state.ensures.told)
    (λ f p reads told. c.reason_told.ensures ∙ ap reason_told told ∙ reason_is p c.args.relation)
