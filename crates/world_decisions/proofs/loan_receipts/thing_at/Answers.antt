-- The item that was found is named as a receipt names it.
use Rattle.std.proofs.Common.{◌∙◌, ap, Ok, Some, None}
use Rattle.std.specs.Prelude.{option_map}
use Rattle.sheet_types.specs.World.{item_moved}
use Rattle.world_queries.proofs.Questions.{asks_answer}
use Rattle.world_decisions.proofs.loan_receipts.thing_at.Goals as goal

pub returns-in-Some : goal.returns-in-Some
returns-in-Some g c =
    asks_answer g.S.Store {x = Some c.in-Some.item} (c.in_ok-item.was ∙ ap Ok c.in-Some.is)
    (λ w count are told p here. ap Some c.of_item.ensures ∙ ap (option_map item_moved) (told p here))
    c.item_at.ensures

pub returns-in-None : goal.returns-in-None
returns-in-None g c = asks_answer g.S.Store {x = None} (c.in_ok-item.was ∙ ap Ok c.in-None.is)
    (λ w count are told p here. ap (option_map item_moved) (told p here)) c.item_at.ensures
