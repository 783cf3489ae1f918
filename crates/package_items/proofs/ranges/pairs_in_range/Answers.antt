-- The rows that were read are all.
use Rattle.std.proofs.Common.{◌≡◌, true, sym, subst}
use Rattle.std.specs.Prelude.{IsPermutation}
use Rattle.std.specs.List.{AllByRecursion}
use Rattle.std.specs.Ordering.{int_cmp, on, then_cmp}
use Rattle.store_sql.proofs.Staying.{looks_stays}
use Rattle.package_tables.specs.Calls.{AreAll}
use Rattle.package_tables.specs.Mappings.{mapping_rows}
use Rattle.identity_register.proofs.Looking.{looked, tells, fails}
use Rattle.package_items.specs.Answers.{Decides}
use Rattle.package_items.specs.Ranges.{is_pair_in_range}
use Rattle.package_items.proofs.Deciding.{decides_moved}
use Rattle.package_items.proofs.ranges.pairs_in_range.Goals as goal

pub returns : goal.returns
returns g c =
    let found = c.deref.result.now in
    tells (λ t. Decides (AllByRecursion (λ r. is_pair_in_range r ≡ true) (mapping_rows c.args.mapping t)))
    (looked (λ t x. AreAll (then_cmp (on (λ x. x.base_id) int_cmp) (on (λ x. x.related_id) int_cmp))
    (mapping_rows c.args.mapping t) x.items) c.in_ok-pairs.was c.all_pairs.ensures)
    (λ t h. decides_moved (λ r. is_pair_in_range r ≡ true) (mapping_rows c.args.mapping t) found
    c.are_pairs_in_range.result (subst (IsPermutation (mapping_rows c.args.mapping t)) (sym c.deref.ensures.value)
    h.0) c.are_pairs_in_range.ensures)

-- a look that failed leaves the store as it was too
pub returns-in_err-pairs : goal.returns-in_err-pairs
returns-in_err-pairs g c = fails c.from_residual.result c.from_residual.ensures.0 (looks_stays c.all_pairs.ensures)
