use Rattle.std.proofs.Common.{subst}
use Rattle.std.specs.Prelude.{◌↔◌, ⊤, IsTrue}
use Rattle.store_sql.proofs.Staying.{looks_stays}
use Rattle.package_schema.specs.Placing.{AreFirstPlaced}
use Rattle.package_schema.proofs.Seeing.{seen, sees_schema, fails}
use Rattle.package_schema.proofs.placing.are_first_placed.Goals as goal

pub returns : goal.returns
returns g c =
    sees_schema (λ s found. IsTrue found ↔ AreFirstPlaced s)
    (seen (λ _ _. ⊤) c.in_ok-answer_nothing.was c.answer_nothing.ensures) c.schema.ensures.live
    (subst (λ s. IsTrue c.has_first_tables.result ↔ AreFirstPlaced s) c.schema.ensures.value
    c.has_first_tables.ensures)

-- a look that failed leaves the store as it was too
pub returns-in_err-answer_nothing : goal.returns-in_err-answer_nothing
returns-in_err-answer_nothing g c = fails c.from_residual.result c.from_residual.ensures.0
    (looks_stays c.answer_nothing.ensures)
