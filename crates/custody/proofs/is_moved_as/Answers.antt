use Rattle.std.proofs.Common.{◌≡◌, ◌∙◌, ap, sym, Some, to_z-of_z}
use Rattle.uuid.specs.Text.{parsed}
use Rattle.std.specs.Prelude.{bytes_eq, ◌&&◌}
use Rattle.std.specs.Ordering.{int_eq}
use Rattle.sheet_types.specs.Texts.{uuid_text}
use Rattle.std.specs.List.{list_any}
use Rattle.package_tables.specs.Calls.{IsOneOf}
use Rattle.custody.specs.Entries.{is_of}
use Rattle.identity_register.proofs.Looking.{asked, looked, tells}
use Rattle.identity_register.proofs.Answering.{one_tells}
use Rattle.custody.proofs.Naming.{read_back}
use Rattle.custody.proofs.is_moved_as.Goals as goal

pub returns-in_err-found-clause-back : goal.returns-in_err-found-clause-back
returns-in_err-found-clause-back g c =
    let same : c.encode_lower-text.result.now ≡ uuid_text c.args.identity =
    c.encode_lower-text.ensures.text ∙ ap uuid_text c.hyphenated.ensures in
    read_back c.args.identity (ap parsed (sym same) ∙ sym c.encode_lower-text.ensures.parsed
    ∙ ap Some c.hyphenated.ensures)

pub returns-clause-back : goal.returns-clause-back
returns-clause-back g c =
    let same : c.encode_lower-text.result.now ≡ uuid_text c.args.identity =
    c.encode_lower-text.ensures.text ∙ ap uuid_text c.hyphenated.ensures in
    read_back c.args.identity (ap parsed (sym same) ∙ sym c.encode_lower-text.ensures.parsed
    ∙ ap Some c.hyphenated.ensures)

pub returns-clause-looked : goal.returns-clause-looked
returns-clause-looked g c =
    let same : c.encode_lower-text.result.now ≡ uuid_text c.args.identity =
    c.encode_lower-text.ensures.text ∙ ap uuid_text c.hyphenated.ensures in
    tells (λ t found. found ≡ list_any (is_of c.args.identity c.args.kind) t.moved)
    (looked (λ t. IsOneOf (is_of c.args.identity c.args.kind) t.moved) c.in_ok-found.was
    (asked (λ text t. IsOneOf (λ x. bytes_eq x.base text && int_eq x.kind c.args.kind) t.moved) same
    (simp (to_z-of_z, c.ranges.kind) at c.moved_of_kind.ensures)))
    (λ t h. c.is_some.ensures ∙ one_tells (is_of c.args.identity c.args.kind) t.moved c.in_ok-found.found h)
