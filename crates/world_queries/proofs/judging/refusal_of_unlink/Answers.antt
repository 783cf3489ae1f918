-- A link goes that is there.
use Rattle.std.proofs.Common.{◌∙◌, ap}
use Rattle.std.specs.Prelude.{not}
use Rattle.std.specs.Bool.{then_some}
use Rattle.sheet_types.specs.declared.refusal.Refusal.TheVariants.{UnknownLink}
use Rattle.world_members.proofs.Seeing.{seen, judges}
use Rattle.world_members.proofs.FirstRows.{IsThere, last}
use Rattle.world_queries.proofs.judging.refusal_of_unlink.Goals as goal

pub returns : goal.returns
returns g c =
    judges (seen (IsThere c.args.relation) c.in_ok-there.was c.has_link.ensures)
    (λ f p reads told. c.then_some.ensures ∙ ap (λ b. then_some (not b) UnknownLink) told ∙ last _ UnknownLink)
