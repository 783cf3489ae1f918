-- The receipt is the one that the package keeps: its row is that of the request, and its things are those of the rows
-- of its number.
use Rattle.std.proofs.Common.{◌∙◌, sym, ap, subst, Ok, to_z-of_z, rules}
use mir.Syntax.{w64}
use mir.Val.{SFits}
use Rattle.std.specs.Ordering.{int_eq}
use Rattle.store_sql.proofs.Staying.{looks_stays, stays_then}
use Rattle.package_tables.specs.Calls.{AreThose}
use Rattle.identity_register.proofs.Looking.{looked, looked_then, sees, fails}
use Rattle.custody.specs.Entries.{rows_at}
use Rattle.custody.proofs.Kept.{IsRowFor, receipt_kept, none_kept}
use Rattle.custody.proofs.keeping.find_receipt.Goals as goal

pub returns-in_err-items-in-Some : goal.returns-in_err-items-in-Some
returns-in_err-items-in-Some g c = fails c.from_residual-in_err-items-in-Some.result
    c.from_residual-in_err-items-in-Some.ensures.0 (stays_then (looks_stays c.row_of.ensures.looked)
    (looks_stays c.items_of.ensures.looked))

pub returns-in_err-receipt-in-Some : goal.returns-in_err-receipt-in-Some
returns-in_err-receipt-in-Some g c = fails c.from_residual-in_err-receipt-in-Some.result
    c.from_residual-in_err-receipt-in-Some.ensures.0 (stays_then (looks_stays c.row_of.ensures.looked)
    (looks_stays c.items_of.ensures.looked))

pub returns-in-None : goal.returns-in-None
returns-in-None g c =
    sees (looked (IsRowFor c.args.id) (c.in_ok-row_of.was ∙ ap Ok c.in-None.is) c.row_of.ensures.looked)
    (λ f p t says none. none_kept f p t says c.args.id none)

pub returns-in_ok-receipt-in-Some : goal.returns-in_ok-receipt-in-Some
returns-in_ok-receipt-in-Some g c =
    let row = c.in-Some.row in
    let receipt = c.in_ok-receipt-in-Some.receipt in
    let seq : SFits w64 c.in-Some.row.seq = search rules in
    sees (looked_then (λ t things. AreThose (λ x. int_eq x.seq row.seq) t.moved (rows_at row.seq things))
    (looked (IsRowFor c.args.id) (c.in_ok-row_of.was ∙ ap Ok c.in-Some.is) c.row_of.ensures.looked)
    c.in_ok-items-in-Some.was (simp (to_z-of_z, seq) at c.items_of.ensures.looked))
    (λ f p t says h. receipt_kept f p t says c.args.id c.row_of.ensures.fit row receipt h.0
    (subst (λ things. AreThose (λ x. int_eq x.seq row.seq) t.moved (rows_at row.seq things))
    (sym c.in_ok-receipt-in-Some.ensures.items) h.1) c.in_ok-receipt-in-Some.ensures.row
    c.in_ok-receipt-in-Some.ensures.fit)
