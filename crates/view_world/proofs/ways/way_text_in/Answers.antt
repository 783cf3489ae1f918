-- The way by the receipts of all packages.
use Rattle.std.proofs.Common.{◌≡◌, ◌∙◌, subst}
use Rattle.std.specs.Prelude.{option_map, string_bytes}
use Rattle.std.specs.Bool.{then_some}
use Rattle.std.specs.List.{list_any}
use Rattle.view_json.specs.Forms.{told_way}
use Rattle.view_text.specs.Ways.{speaks_of}
use Rattle.view_world.proofs.Answers.{text_or_none}
use Rattle.view_world.proofs.ways.way_text_in.Goals as goal

pub returns-clause-told : goal.returns-clause-told
returns-clause-told g c = λ clean w stands.
    subst (λ l. option_map (λ t. string_bytes t) c.in_ok-found.found
    ≡ then_some (list_any (speaks_of c.args.identity) l) (told_way c.args.form c.args.identity l))
    (c.deref.ensures.value ∙ c.in_ok-ledger.ensures.told clean w stands)
    (text_or_none (λ t. string_bytes t) c.in_ok-found.found (list_any (speaks_of c.args.identity) c.deref.result.now)
    (told_way c.args.form c.args.identity c.deref.result.now) c.in_ok-found.ensures)

pub returns-clause-opens : goal.returns-clause-opens
returns-clause-opens g c = c.in_ok-ledger.ensures.opens
