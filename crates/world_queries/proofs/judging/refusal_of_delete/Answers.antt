-- An item goes that the package has and no link names.
use Rattle.std.proofs.Common.{◌∙◌, sym, Some, None}
use Rattle.world_members.proofs.Seeing.{seen, judges}
use Rattle.world_members.proofs.FirstRows.{IsLinked, delete_told}
use Rattle.world_queries.proofs.judging.refusal_of_delete.Goals as goal

pub returns-in-None : goal.returns-in-None
returns-in-None g c =
    judges (seen (IsLinked c.args.identity) c.in_ok-is_linked.was c.is_linked.ensures)
    (λ f p reads told. delete_told p c.args.identity None (sym c.in-None.is ∙ told))

pub returns-in-Some : goal.returns-in-Some
returns-in-Some g c =
    judges (seen (IsLinked c.args.identity) c.in_ok-is_linked.was c.is_linked.ensures)
    (λ f p reads told. c.then_some.ensures ∙ delete_told p c.args.identity (Some c.in-Some.linked)
    (sym c.in-Some.is ∙ told))
