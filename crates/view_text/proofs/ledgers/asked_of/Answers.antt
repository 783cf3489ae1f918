-- The last of those that are asked for.
use Rattle.std.proofs.Common.{◌∙◌, ap, map}
use Rattle.std.specs.Borrow.{Bor}
use Rattle.sheet_types.specs.declared.receipt.Receipt.{Receipt}
use Rattle.view_text.proofs.Excerpts.{last_behind}
use Rattle.view_text.proofs.ledgers.asked_of.Goals as goal

pub returns : goal.returns
returns c =
    ap (map (λ (r : Bor Receipt). r.now)) c.in_ok-asked.ensures
    ∙ last_behind c.as_slice.result.now _ c.args.excerpt.now.last
    (ap (map (λ (r : Bor Receipt). r.now)) c.as_slice.ensures.value ∙ c.in_ok-found.ensures)
