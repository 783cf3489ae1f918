-- The receipt is that of the world, and all is selected; then what it would leave is looked at.
use Rattle.std.proofs.Common.{◌≡◌, ◌∙◌, List, refl, subst}
use Rattle.sheet_types.specs.World.{holdings}
use Rattle.sheet_types.specs.declared.command.Item.{Item}
use Rattle.sheet_types.specs.declared.command.Relation.{Relation}
use Rattle.register_lending.specs.Selecting.{IsSelectionOf}
use Rattle.world_decisions.specs.DecidingMerges.{all_of}
use Rattle.world_decisions.proofs.DecidedMerges.{receipt_made}
use Rattle.world_decisions.proofs.deciding_merges.decide_whole.Goals as goal

pub returns-clause-decides : goal.returns-clause-decides
returns-clause-decides g c = λ w are is nothing items_are links_are.
    let selected : IsSelectionOf (all_of (holdings w is.child)) c.in_ok-selection.selection =
    subst (λ (xs : List Item). IsSelectionOf (record { items = xs; links = (holdings w is.child).links })
    c.in_ok-selection.selection) items_are
    (subst (λ (ls : List Relation). IsSelectionOf (record { items = c.args.items.now; links = ls })
    c.in_ok-selection.selection) links_are c.in_ok-selection.ensures) in
    c.decide_by_sums.ensures.decides w c.args.request.now are is nothing
    (receipt_made c.args.count c.args.from c.args.at c.args.request.now w is c.args.items.now c.deref.result.now _
    c.in_ok-receipt.receipt items_are (c.deref.ensures.value ∙ links_are) refl c.in_ok-receipt.ensures) selected
