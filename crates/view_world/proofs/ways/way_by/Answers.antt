-- The way by the receipts of all packages.
use Rattle.std.proofs.Common.{◌≡◌, ◌∙◌, subst}
use Rattle.std.specs.Prelude.{option_map, string_bytes}
use Rattle.std.specs.Bool.{then_some}
use Rattle.std.specs.List.{list_any}
use Rattle.view_history.specs.Told.{ledger_of}
use Rattle.view_history.proofs.Asked.{asks_then, asks_lost}
use Rattle.view_json.specs.Forms.{told_way}
use Rattle.view_text.specs.Ways.{speaks_of}
use Rattle.view_world.proofs.Answers.{text_or_none}
use Rattle.view_world.proofs.ways.way_by.Goals as goal

pub returns-in_err-ledger : goal.returns-in_err-ledger
returns-in_err-ledger g c = asks_lost g.S.Store _ c.from_residual.result c.from_residual.ensures.0 c.ledger_of.ensures

pub returns-in_err-found : goal.returns-in_err-found
returns-in_err-found g c =
    asks_lost g.S.Store _ c.from_residual-in_err-found.result c.from_residual-in_err-found.ensures.0
    c.ledger_of.ensures

pub returns : goal.returns
returns g c =
    asks_then g.S.Store (λ packages ledger. ledger.items ≡ ledger_of packages) c.in_ok-ledger.was
    (λ packages e. subst (λ l. option_map (λ t. string_bytes t) c.in_ok-found.found
    ≡ then_some (list_any (speaks_of c.args.identity) l) (told_way c.args.form c.args.identity l))
    (c.deref.ensures.value ∙ e)
    (text_or_none (λ t. string_bytes t) c.in_ok-found.found (list_any (speaks_of c.args.identity) c.deref.result.now)
    (told_way c.args.form c.args.identity c.deref.result.now) c.in_ok-found.ensures)) c.ledger_of.ensures
