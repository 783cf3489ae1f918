use Rattle.std.proofs.Common.{◌↔◌, IsTrue, sym, subst}
use Rattle.std.specs.Prelude.{MatchOption}
use Rattle.store_sql.proofs.Staying.{looks_stays}
use Rattle.identity_register.proofs.Looking.{looked, tells, fails}
use Rattle.package_receipts.specs.Ranges.{AreReceiptsInRange}
use Rattle.package_receipts.specs.Read.{AreSaid}
use Rattle.package_receipts.proofs.Saying.{is_there}
use Rattle.package_receipts.proofs.are_in_range.Goals as goal

pub returns : goal.returns
returns g c =
    tells (λ t answer. IsTrue answer ↔ AreReceiptsInRange t.receipts t.moved)
    (looked (λ t found. MatchOption found (AreReceiptsInRange t.receipts t.moved → ⊥)
    (λ entered. AreSaid t entered.items)) c.in_ok-found.was c.receipts.ensures)
    (λ t h. subst (λ b. IsTrue b ↔ AreReceiptsInRange t.receipts t.moved) (sym c.is_some.ensures)
    (is_there (AreReceiptsInRange t.receipts t.moved) (λ v. AreSaid t v.items) c.in_ok-found.found
    (λ v s. s.range) h))

-- a look that failed leaves the store as it was too
pub returns-in_err-found : goal.returns-in_err-found
returns-in_err-found g c = fails c.from_residual.result c.from_residual.ensures.0 (looks_stays c.receipts.ensures)
