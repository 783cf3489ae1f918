-- The row of an item tells that the item is there, and whether a link names it.
use Rattle.std.proofs.Common.{◌≡◌, ◌∙◌, sym, ap, Ok, Some, rules}
use Rattle.std.specs.Bool.{then_some}
use Rattle.std.specs.List.{list_any}
use Rattle.std.proofs.lemmas.Int.{to_z-of_z}
use mir.Syntax.{w64}
use mir.Val.{SFits}
use Rattle.store_sql.proofs.Staying.{looks_stays, stays_then}
use Rattle.sheet_types.specs.Cut.{has_end}
use Rattle.identity_register.specs.Answers.{is_linked_row}
use Rattle.identity_register.proofs.Looking.{looked, looked_then, sees, fails}
use Rattle.identity_register.proofs.Finding.{no_row_of_uuid}
use Rattle.identity_register.proofs.Answering.{IsRowFor, known_by_row}
use Rattle.identity_register.proofs.Ends.{linked_by_row}
use Rattle.identity_register.proofs.look_ups.is_linked.Goals as goal

pub returns-in-None : goal.returns-in-None
returns-in-None g c =
    sees (looked (IsRowFor c.args.identity) (c.in_ok-row_of.was ∙ ap Ok c.in-None.is) c.row_of.ensures.looked)
    (λ f p t says none. ap (λ known. then_some known (list_any (has_end c.args.identity) p.links))
    (sym (no_row_of_uuid f p t says c.args.identity none)))

pub returns-in_err-linked-in-Some : goal.returns-in_err-linked-in-Some
returns-in_err-linked-in-Some g c = fails c.from_residual-in_err-linked-in-Some.result
    c.from_residual-in_err-linked-in-Some.ensures.0 (stays_then (looks_stays c.row_of.ensures.looked)
    (looks_stays c.row_is_linked.ensures))

pub returns-in_ok-linked-in-Some : goal.returns-in_ok-linked-in-Some
returns-in_ok-linked-in-Some g c =
    let kind : SFits w64 c.in-Some.row.kind = search rules in
    let number : SFits w64 c.in-Some.row.local_id = search rules in
    sees (looked_then (λ t found. found ≡ is_linked_row c.in-Some.row.kind c.in-Some.row.local_id t)
    (looked (IsRowFor c.args.identity) (c.in_ok-row_of.was ∙ ap Ok c.in-Some.is) c.row_of.ensures.looked)
    c.in_ok-linked-in-Some.was (simp to_z-of_z at c.row_is_linked.ensures))
    (λ f p t says h.
    ap Some (h.1 ∙ linked_by_row f p t says c.args.identity c.row_of.ensures.fit c.in-Some.row h.0)
    ∙ ap (λ known. then_some known (list_any (has_end c.args.identity) p.links))
    (sym (known_by_row f p t says c.args.identity c.row_of.ensures.fit c.in-Some.row h.0)))
