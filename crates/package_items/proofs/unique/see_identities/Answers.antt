-- The rows that were read are all.
use Rattle.std.proofs.Common.{sym, subst}
use Rattle.std.specs.Prelude.{IsPermutation}
use Rattle.std.specs.Ordering.{int_cmp, on, then_cmp}
use Rattle.store_sql.proofs.Staying.{looks_stays}
use Rattle.package_tables.specs.Calls.{AreAll}
use Rattle.package_items.specs.Uniques.{AreIdentitiesUnique}
use Rattle.identity_register.proofs.Looking.{fails}
use Rattle.package_items.proofs.Seen.{seen_last, both_so, rows_moved, uuids_moved}
use Rattle.package_items.proofs.unique.see_identities.Goals as goal

pub returns : goal.returns
returns g c =
    let found = c.deref.result.now in
    seen_last (λ t x. AreAll (then_cmp (on (λ x. x.kind) int_cmp) (on (λ x. x.local_id) int_cmp)) t.identities
    x.items) AreIdentitiesUnique c.in_ok-rows.was c.all_identities.ensures
    c.see_rows.result (both_so _ _ c.see_rows.result c.see_rows.ensures.numbers c.see_rows.ensures.uuids)
    (λ t all apart. let moves = subst (IsPermutation t.identities) (sym c.deref.ensures.value) all.0 in record {
      numbers = rows_moved t.identities found moves apart.0;
      uuids = uuids_moved t.identities found moves apart.1;
    })

-- a look that failed leaves the store as it was too
pub returns-in_err-rows : goal.returns-in_err-rows
returns-in_err-rows g c = fails c.from_residual.result c.from_residual.ensures.0 (looks_stays c.all_identities.ensures)
