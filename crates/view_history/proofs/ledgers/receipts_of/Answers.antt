-- The receipts that the tables say are the package's.
use Rattle.std.proofs.Common.{◌∙◌, ap, Ok, refl}
use Rattle.std.specs.Prelude.{MatchOption}
use Rattle.store_sql.proofs.Staying.{looks_stays}
use Rattle.package_receipts.specs.Ranges.{AreReceiptsInRange}
use Rattle.package_receipts.specs.Read.{AreSaid}
use Rattle.identity_register.proofs.Looking.{looked, sees, fails}
use Rattle.view_history.proofs.WholeLedgers.{whole}
use Rattle.view_history.proofs.ledgers.receipts_of.Goals as goal

pub returns-in-Some : goal.returns-in-Some
returns-in-Some g c =
    sees (looked (λ t found. MatchOption found (AreReceiptsInRange t.receipts t.moved → ⊥)
    (λ entered. AreSaid t entered.items)) (c.in_ok-found.was ∙ ap Ok c.in-Some.is) c.receipts.ensures)
    (λ f p t says said. whole f p t says c.in-Some.found.items said)

pub returns-in-None : goal.returns-in-None
returns-in-None g c = fails _ refl (looks_stays c.receipts.ensures)

pub returns-in_err-found : goal.returns-in_err-found
returns-in_err-found g c = fails c.from_residual.result c.from_residual.ensures.0 (looks_stays c.receipts.ensures)
