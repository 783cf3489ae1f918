-- The rows that were read are all.
use Rattle.std.proofs.Common.{sym, subst}
use Rattle.std.specs.Prelude.{IsPermutation}
use Rattle.std.specs.List.{AllByRecursion}
use Rattle.std.specs.Ordering.{int_cmp, on, then_cmp}
use Rattle.store_sql.proofs.Staying.{looks_stays}
use Rattle.package_tables.specs.Calls.{AreAll}
use Rattle.identity_register.proofs.Looking.{looked, tells, fails}
use Rattle.package_items.specs.Answers.{Decides}
use Rattle.package_items.specs.Ranges.{IsIdentityInRange}
use Rattle.package_items.proofs.Deciding.{decides_moved}
use Rattle.package_items.proofs.ranges.identities_in_range.Goals as goal

pub returns : goal.returns
returns g c =
    let found = c.deref.result.now in
    tells (λ t. Decides (AllByRecursion IsIdentityInRange t.identities))
    (looked (λ t x. AreAll (then_cmp (on (λ x. x.kind) int_cmp) (on (λ x. x.local_id) int_cmp)) t.identities
    x.items) c.in_ok-rows.was c.all_identities.ensures)
    (λ t h. decides_moved IsIdentityInRange t.identities found c.are_identities_in_range.result
    (subst (IsPermutation t.identities) (sym c.deref.ensures.value) h.0) c.are_identities_in_range.ensures)

-- a look that failed leaves the store as it was too
pub returns-in_err-rows : goal.returns-in_err-rows
returns-in_err-rows g c = fails c.from_residual.result c.from_residual.ensures.0 (looks_stays c.all_identities.ensures)
