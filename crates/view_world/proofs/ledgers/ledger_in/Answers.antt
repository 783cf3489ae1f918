-- The receipts of all packages, in order.
use Rattle.std.proofs.Common.{◌∙◌, ap}
use Rattle.sheet_types.specs.Ordered.{arranged}
use Rattle.sheet_types.specs.World.{receipt_key}
use Rattle.view_history.proofs.WholeLedgers.{zip_lists}
use Rattle.view_world.proofs.ledgers.ledger_in.Goals as goal

pub returns-clause-told : goal.returns-clause-told
returns-clause-told g c = λ clean w stands.
    c.in_ok-ledger.ensures
    ∙ ap (arranged receipt_key) (c.in_ok-all.ensures
    ∙ zip_lists (λ list. list.items) w.packages c.in_ok-lists.lists.items
    (c.in_ok-lists.ensures.told clean w stands))

pub returns-clause-opens : goal.returns-clause-opens
returns-clause-opens g c = c.in_ok-lists.ensures.opens
