-- The table of the receipts of all packages.
use Rattle.std.proofs.Common.{◌∙◌, ap}
use Rattle.view_json.specs.Forms.{told_excerpt}
use Rattle.view_world.proofs.ledgers.log_text_in.Goals as goal

pub returns-clause-told : goal.returns-clause-told
returns-clause-told g c = λ clean w stands.
    c.in_ok-told.ensures ∙ ap (λ l. told_excerpt c.args.form l c.args.excerpt.now) (c.deref.ensures.value
    ∙ c.in_ok-ledger.ensures.told clean w stands)

pub returns-clause-opens : goal.returns-clause-opens
returns-clause-opens g c = c.in_ok-ledger.ensures.opens
