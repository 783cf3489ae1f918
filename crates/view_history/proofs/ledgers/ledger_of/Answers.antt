-- The receipts of all stores, in order.
use Rattle.std.proofs.Common.{◌≡◌, ◌∙◌, ap}
use Rattle.std.specs.List.{AllZip}
use Rattle.sheet_types.specs.Ordered.{arranged}
use Rattle.sheet_types.specs.World.{receipt_key}
use Rattle.view_history.proofs.Asked.{asks_then, asks_lost}
use Rattle.view_history.proofs.WholeLedgers.{zip_lists}
use Rattle.view_history.proofs.ledgers.ledger_of.Goals as goal

pub returns-in_err-lists : goal.returns-in_err-lists
returns-in_err-lists g c = asks_lost g.S.Store _ c.from_residual.result c.from_residual.ensures.0 c.ask_each.ensures

pub returns-in_err-all : goal.returns-in_err-all
returns-in_err-all g c = asks_lost g.S.Store _ c.from_residual-in_err-all.result c.from_residual-in_err-all.ensures.0
    c.ask_each.ensures

pub returns-in_err-ledger : goal.returns-in_err-ledger
returns-in_err-ledger g c = asks_lost g.S.Store _ c.from_residual-in_err-ledger.result
    c.from_residual-in_err-ledger.ensures.0 c.ask_each.ensures

pub returns : goal.returns
returns g c =
    asks_then g.S.Store (λ packages lists. AllZip (λ p list. list.items ≡ p.receipts) packages lists.items)
    c.in_ok-lists.was
    (λ packages each. c.in_ok-ledger.ensures ∙ ap (arranged receipt_key)
    (c.in_ok-all.ensures ∙ zip_lists (λ list. list.items) packages c.in_ok-lists.lists.items each))
    c.ask_each.ensures
