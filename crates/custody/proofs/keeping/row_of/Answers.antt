-- The text that is asked for is that of the request, and reads as it.
use Rattle.std.proofs.Common.{◌≡◌, ◌∙◌, ap}
use Rattle.std.specs.Prelude.{bytes_eq}
use Rattle.sheet_types.specs.Texts.{uuid_text}
use Rattle.package_tables.specs.Calls.{IsOneOf}
use Rattle.identity_register.proofs.Uuids.{fits_by_text}
use Rattle.identity_register.proofs.Looking.{asked}
use Rattle.custody.proofs.keeping.row_of.Goals as goal

pub returns-clause-looked : goal.returns-clause-looked
returns-clause-looked g c =
    let same : c.encode_lower-text.result.now ≡ uuid_text c.args.request =
    c.encode_lower-text.ensures.text ∙ ap uuid_text c.hyphenated.ensures in
    asked (λ text t. IsOneOf (λ x. bytes_eq x.request text) t.receipts) same c.receipt_by_request.ensures

pub returns-clause-fit : goal.returns-clause-fit
returns-clause-fit g c =
    fits_by_text c.args.request c.encode_lower-text.result.now
    (c.encode_lower-text.ensures.text ∙ ap uuid_text c.hyphenated.ensures)
    (rw c.hyphenated.ensures at c.encode_lower-text.ensures.parsed)
