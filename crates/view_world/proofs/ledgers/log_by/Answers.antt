-- The table of the receipts of all packages.
use Rattle.std.proofs.Common.{◌≡◌, ◌∙◌, ap}
use Rattle.view_history.specs.Told.{ledger_of}
use Rattle.view_history.proofs.Asked.{asks_then, asks_lost}
use Rattle.view_json.specs.Forms.{told_excerpt}
use Rattle.view_world.proofs.ledgers.log_by.Goals as goal

pub returns-in_err-ledger : goal.returns-in_err-ledger
returns-in_err-ledger g c = asks_lost g.S.Store _ c.from_residual.result c.from_residual.ensures.0 c.ledger_of.ensures

pub returns-in_err-text : goal.returns-in_err-text
returns-in_err-text g c =
    asks_lost g.S.Store _ c.from_residual-in_err-text.result c.from_residual-in_err-text.ensures.0 c.ledger_of.ensures

pub returns : goal.returns
returns g c =
    asks_then g.S.Store (λ packages ledger. ledger.items ≡ ledger_of packages) c.in_ok-ledger.was
    (λ packages e. c.in_ok-text.ensures ∙ ap (λ l. told_excerpt c.args.form l c.args.excerpt.now)
    (c.deref.ensures.value ∙ e)) c.ledger_of.ensures
