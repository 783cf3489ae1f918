-- The rows that were read are all.
use Rattle.std.proofs.Common.{sym, subst}
use Rattle.std.specs.Prelude.{IsPermutation}
use Rattle.std.specs.List.{IsDistinct}
use Rattle.std.specs.Ordering.{int_cmp, on, then_cmp}
use Rattle.store_sql.proofs.Staying.{looks_stays}
use Rattle.package_tables.specs.Calls.{AreAll}
use Rattle.package_tables.specs.Mappings.{mapping_rows}
use Rattle.identity_register.specs.Numbering.{is_pair}
use Rattle.identity_register.proofs.Looking.{fails}
use Rattle.package_items.proofs.Seen.{seen_last, pairs_moved}
use Rattle.package_items.proofs.unique.see_mapping.Goals as goal

pub returns : goal.returns
returns g c =
    let m = c.args.mapping in
    let found = c.deref.result.now in
    seen_last (λ t x. AreAll (then_cmp (on (λ x. x.base_id) int_cmp) (on (λ x. x.related_id) int_cmp))
    (mapping_rows m t) x.items) (λ t. IsDistinct is_pair (mapping_rows m t)) c.in_ok-pairs.was c.all_pairs.ensures
    c.see_pairs.result c.see_pairs.ensures (λ t all apart. pairs_moved (mapping_rows m t) found
    (subst (IsPermutation (mapping_rows m t)) (sym c.deref.ensures.value) all.0) apart)

-- a look that failed leaves the store as it was too
pub returns-in_err-pairs : goal.returns-in_err-pairs
returns-in_err-pairs g c = fails c.from_residual.result c.from_residual.ensures.0 (looks_stays c.all_pairs.ensures)
