-- The one head that was found is the package's.
use Rattle.std.specs.Ordering.{on, int_cmp}
use Rattle.store_sql.proofs.Staying.{looks_stays}
use Rattle.package_tables.specs.Calls.{AreAll}
use Rattle.package_tables.specs.declared.rows.HeadRow.{HeadRow}
use Rattle.identity_register.proofs.Looking.{looked, sees, fails}
use Rattle.std.proofs.Common.{subst}
use Rattle.view_history.specs.Told.{IsLoanIn}
use Rattle.view_history.proofs.OwnHeads.{loan_is}
use Rattle.view_history.proofs.loans.loan_of.Goals as goal

pub returns-in_err-heads : goal.returns-in_err-heads
returns-in_err-heads g c = fails c.from_residual.result c.from_residual.ensures.0 (looks_stays c.all_heads.ensures)

pub returns-in_err-loan : goal.returns-in_err-loan
returns-in_err-loan g c = fails c.from_residual-in_err-loan.result c.from_residual-in_err-loan.ensures.0
    (looks_stays c.all_heads.ensures)

pub returns : goal.returns
returns g c =
    sees (looked (λ t found. AreAll (on (λ (x : HeadRow). x.id) int_cmp) t.heads found.items) c.in_ok-heads.was
    c.all_heads.ensures)
    (λ f p t says all. loan_is f p t says c.in_ok-heads.heads.items c.in_ok-loan.loan all
    (subst (λ heads. IsLoanIn heads c.in_ok-loan.loan) c.as_slice.ensures.value c.in_ok-loan.ensures))
