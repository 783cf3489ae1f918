-- The row that was found is of the number, or no receipt is.
use Rattle.std.proofs.Common.{◌≡◌, ◌∙◌, ap, sym, Ok, Some, None, to_z-of_z, rules, FitsSigned, w64}
use Rattle.std.specs.Prelude.{filter}
use Rattle.std.specs.Ordering.{int_cmp, is_gt}
use Rattle.store_sql.proofs.Staying.{looks_stays}
use Rattle.package_tables.specs.Calls.{IsLeast}
use Rattle.package_tables.specs.declared.rows.ReceiptRow.{ReceiptRow}
use Rattle.identity_register.proofs.Looking.{looked, sees, fails}
use Rattle.view_history.proofs.Asked.{still}
use Rattle.view_history.proofs.Dates.{moment_none, moment_found}
use Rattle.view_history.proofs.moments.moment_at.Goals as goal

pub returns-in_err-before : goal.returns-in_err-before
returns-in_err-before g c = fails c.from_residual.result c.from_residual.ensures.0
    (still g.S.Store g.met.S.Store.shut_if_dirty g.met.S.Store.settled c.args.conn.now c.requires)

pub returns-in_err-seq : goal.returns-in_err-seq
returns-in_err-seq g c = fails c.from_residual-in_err-seq.result c.from_residual-in_err-seq.ensures.0
    (still g.S.Store g.met.S.Store.shut_if_dirty g.met.S.Store.settled c.args.conn.now c.requires)

pub returns-in_err-row : goal.returns-in_err-row
returns-in_err-row g c = fails c.from_residual-in_err-row.result c.from_residual-in_err-row.ensures.0
    (looks_stays c.receipt_after.ensures)

pub returns-in-None : goal.returns-in-None
returns-in-None g c =
    let low : FitsSigned w64 c.in_ok-before.before = search rules in
    sees (looked (λ t. IsLeast (λ (x : ReceiptRow). x.seq) (filter
    (λ (x : ReceiptRow). is_gt (int_cmp x.seq c.in_ok-before.before)) t.receipts))
    (c.in_ok-row.was ∙ ap Ok c.in-None.is) (simp (to_z-of_z, low) at c.receipt_after.ensures))
    (λ f p t says none. sym (moment_none f p t says c.args.number c.in_ok-before.before c.in_ok-seq.seq
    c.in_ok-before.ensures c.in_ok-seq.ensures.stored none))

pub returns-in-Some : goal.returns-in-Some
returns-in-Some g c =
    let low : FitsSigned w64 c.in_ok-before.before = search rules in
    let fits : FitsSigned w64 c.in_ok-seq.seq = search rules in
    sees (looked (λ t. IsLeast (λ (x : ReceiptRow). x.seq) (filter
    (λ (x : ReceiptRow). is_gt (int_cmp x.seq c.in_ok-before.before)) t.receipts))
    (c.in_ok-row.was ∙ ap Ok c.in-Some.is) (simp (to_z-of_z, low) at c.receipt_after.ensures))
    (λ f p t says least. (simp (to_z-of_z, fits) at c.moment_in.ensures)
    ∙ moment_found f p t says c.args.number c.in_ok-before.before c.in_ok-seq.seq c.in_ok-before.ensures
    c.in_ok-seq.ensures.stored c.in-Some.row least)
