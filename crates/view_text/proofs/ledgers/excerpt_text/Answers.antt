-- The headings, and the lines of those that are asked for.
use Rattle.std.proofs.Common.{◌≡◌, ◌∙◌, ◌++◌, ap, map, rules}
use Rattle.std.specs.Borrow.{Bor}
use Rattle.std.specs.Prelude.{flat_map, string_bytes}
use Rattle.sheet_types.specs.declared.receipt.Receipt.{Receipt}
use Rattle.view_text.specs.Ledgers.{headings, ledger_line}
use Rattle.view_text.proofs.Excerpts.{flat_behind}
use Rattle.view_text.proofs.ledgers.excerpt_text.Goals as goal

pub returns : goal.returns
returns c =
    let put : string_bytes c.put.new.line ≡ headings = search rules in
    c.in_ok-put_receipts.ensures
    ∙ ap (λ t. t ++ flat_map (λ (r : Bor Receipt). ledger_line r.now) c.as_slice.result.now) put
    ∙ ap (λ l. headings ++ l) (flat_behind c.as_slice.result.now
    ∙ ap (flat_map ledger_line) (ap (map (λ (r : Bor Receipt). r.now)) c.as_slice.ensures.value
    ∙ c.in_ok-asked.ensures))
