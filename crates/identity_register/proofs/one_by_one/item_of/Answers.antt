-- The text of the row is that of the identity, and the content is that of the row's kind and number.
use Rattle.std.proofs.Common.{◌≡◌, ◌∙◌, sym, subst, rules, IfOk}
use mir.Syntax.{w64}
use mir.Val.{SFits}
use Rattle.std.proofs.lemmas.Int.{to_z-of_z}
use Rattle.sheet_types.specs.Lines.{IsUuid}
use Rattle.sheet_types.specs.Texts.{uuid_text}
use Rattle.identity_register.specs.Answers.{IsContentOf}
use Rattle.identity_register.specs.Gathered.{IsReadOf}
use Rattle.identity_register.proofs.Looking.{looked, tells}
use Rattle.identity_register.proofs.one_by_one.item_of.Goals as goal

pub returns : goal.returns
returns g c =
    let row = c.args.row.now in
    let kind : SFits w64 row.kind = search rules in
    let number : SFits w64 row.local_id = search rules in
    tells (λ t item. IsReadOf t row item) (looked (IsContentOf row.kind row.local_id) c.in_ok-content.was
    (simp to_z-of_z at c.content_of.ensures))
    (λ t h. record {
      text = sym c.as_str.ensures ∙ subst (λ r. IfOk r (λ id. c.as_str.result.now ≡ uuid_text id))
          c.in_ok-identity.was c.stored_uuid.ensures.text;
      fit = subst (λ r. IfOk r IsUuid) c.in_ok-identity.was c.stored_uuid.ensures.fit;
      there = h;
    })
