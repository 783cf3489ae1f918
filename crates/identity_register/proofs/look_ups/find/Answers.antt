-- The content of the row of an item is the item's.
use Rattle.std.proofs.Common.{◌∙◌, sym, ap, Ok, rules}
use mir.Syntax.{w64}
use mir.Val.{SFits}
use Rattle.std.proofs.lemmas.Int.{to_z-of_z}
use Rattle.store_sql.proofs.Staying.{looks_stays, stays_then}
use Rattle.identity_register.specs.Answers.{IsContentOf}
use Rattle.identity_register.proofs.Looking.{looked, looked_then, sees, fails}
use Rattle.identity_register.proofs.Answering.{IsRowFor, no_item}
use Rattle.identity_register.proofs.Contents.{content_by_row}
use Rattle.identity_register.proofs.look_ups.find.Goals as goal

pub returns-in_err-content-in-Some : goal.returns-in_err-content-in-Some
returns-in_err-content-in-Some g c = fails c.from_residual-in_err-content-in-Some.result
    c.from_residual-in_err-content-in-Some.ensures.0 (stays_then (looks_stays c.row_of.ensures.looked)
    (looks_stays c.content_of.ensures))

pub returns-in-None : goal.returns-in-None
returns-in-None g c =
    sees (looked (IsRowFor c.args.identity) (c.in_ok-row_of.was ∙ ap Ok c.in-None.is) c.row_of.ensures.looked)
    (λ f p t says none. sym (no_item f p t says c.args.identity none))

pub returns-in_ok-content-in-Some : goal.returns-in_ok-content-in-Some
returns-in_ok-content-in-Some g c =
    let kind : SFits w64 c.in-Some.row.kind = search rules in
    let number : SFits w64 c.in-Some.row.local_id = search rules in
    sees (looked_then (IsContentOf c.in-Some.row.kind c.in-Some.row.local_id)
    (looked (IsRowFor c.args.identity) (c.in_ok-row_of.was ∙ ap Ok c.in-Some.is) c.row_of.ensures.looked)
    c.in_ok-content-in-Some.was (simp to_z-of_z at c.content_of.ensures))
    (λ f p t says h. content_by_row f p t says c.args.identity c.row_of.ensures.fit c.in-Some.row
    c.in_ok-content-in-Some.content h.0 h.1)
