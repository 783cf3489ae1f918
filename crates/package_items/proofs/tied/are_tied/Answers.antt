-- What was read decides it.
use Rattle.store_sql.proofs.Staying.{looks_stays}
use Rattle.identity_register.proofs.Looking.{looked, tells, fails}
use Rattle.package_items.specs.Answers.{Decides}
use Rattle.package_items.specs.Tied.{AreTied}
use Rattle.package_items.specs.Ties.{AreKeysOf}
use Rattle.package_items.proofs.tied.are_tied.Goals as goal

pub returns : goal.returns
returns g c = tells (λ t. Decides (AreTied t)) (looked AreKeysOf c.in_ok-keys.was c.read_keys.ensures)
    (λ t known. c.are_tied_by.ensures t known)

-- a look that failed leaves the store as it was too
pub returns-in_err-keys : goal.returns-in_err-keys
returns-in_err-keys g c = fails c.from_residual.result c.from_residual.ensures.0 (looks_stays c.read_keys.ensures)
