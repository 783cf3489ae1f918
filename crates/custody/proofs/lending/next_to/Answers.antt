use Rattle.std.proofs.Common.{◌≡◌, ◌∙◌, ap, sym, Some, to_z-of_z}
use Rattle.uuid.specs.Text.{parsed}
use Rattle.std.specs.Prelude.{bytes_eq, ◌&&◌, filter}
use Rattle.std.specs.Ordering.{int_cmp, is_gt}
use Rattle.sheet_types.specs.Texts.{uuid_text}
use Rattle.package_tables.specs.Calls.{IsLeast}
use Rattle.identity_register.proofs.Looking.{asked}
use Rattle.custody.proofs.Naming.{read_back}
use Rattle.custody.proofs.lending.next_to.Goals as goal

pub returns-clause-back : goal.returns-clause-back
returns-clause-back g c =
    let same : c.encode_lower-text.result.now ≡ uuid_text c.args.target =
    c.encode_lower-text.ensures.text ∙ ap uuid_text c.hyphenated.ensures in
    read_back c.args.target (ap parsed (sym same) ∙ sym c.encode_lower-text.ensures.parsed
    ∙ ap Some c.hyphenated.ensures)

pub returns-clause-looked : goal.returns-clause-looked
returns-clause-looked g c =
    let same : c.encode_lower-text.result.now ≡ uuid_text c.args.target =
    c.encode_lower-text.ensures.text ∙ ap uuid_text c.hyphenated.ensures in
    asked (λ text t. IsLeast (λ x. x.seq) (filter (λ x. bytes_eq x.target text && is_gt (int_cmp x.seq c.args.last))
    t.receipts)) same (simp (to_z-of_z, c.ranges.last) at c.receipt_to_after.ensures)
