-- The row that was found has the kind and the number, and its text is that of the identity.
use Rattle.std.proofs.Common.{Ok, ◌≡◌, ◌∙◌, ap, subst, IfOk, sym}
use Rattle.std.specs.Prelude.{◌&&◌}
use Rattle.std.specs.Ordering.{int_eq}
use Rattle.std.specs.Result.{result_ok}
use Rattle.std.proofs.lemmas.Bool.{and_parts}
use Rattle.std.proofs.lemmas.Int.{to_z-of_z}
use Rattle.store_sql.proofs.Staying.{looks_stays}
use Rattle.sheet_types.specs.Lines.{IsUuid}
use Rattle.sheet_types.specs.Texts.{uuid_text}
use Rattle.package_tables.specs.Calls.{IsOneOf}
use Rattle.identity_register.specs.Gathered.{IsNamed}
use Rattle.identity_register.proofs.Contents.{int_same}
use Rattle.identity_register.proofs.Gathering.{tells_if}
use Rattle.identity_register.proofs.Looking.{looked, fails}
use Rattle.identity_register.proofs.reach.name_at.Goals as goal

pub returns-in_err-row : goal.returns-in_err-row
returns-in_err-row g c = fails c.from_residual-in_err-row.result c.from_residual-in_err-row.ensures.0
    (looks_stays c.identity_by_key.ensures)

pub returns : goal.returns
returns g c =
    let kind = c.ranges.kind in
    let number = c.ranges.number in
    let row = c.in_ok-row.row in
    let there = c.in_ok-identity_by_key.was ∙ ap Ok (c.ok_or.ensures.ok_part ∙ ap result_ok c.in_ok-row.was) in
    tells_if (λ t id. IsNamed t.identities c.args.kind c.args.number id) c.stored_uuid.result
    (looked (λ t. IsOneOf (λ x. int_eq x.kind c.args.kind && int_eq x.local_id c.args.number) t.identities) there
    (simp to_z-of_z at c.identity_by_key.ensures))
    (λ id e t h.
    let same = and_parts (int_eq row.kind c.args.kind) (int_eq row.local_id c.args.number) h.1 in
    let text : row.uuid ≡ uuid_text id = sym c.as_str.ensures
    ∙ subst (λ r. IfOk r (λ id. c.as_str.result.now ≡ uuid_text id)) e c.stored_uuid.ensures.text in
    record {
      row = row;
      there = h.0;
      kind_is = int_same row.kind c.args.kind same.0;
      number_is = int_same row.local_id c.args.number same.1;
      identity = text;
      fit = subst (λ r. IfOk r IsUuid) e c.stored_uuid.ensures.fit;
    })
