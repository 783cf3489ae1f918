-- The rows that were read are all.
use Rattle.std.proofs.Common.{sym, subst}
use Rattle.std.specs.Prelude.{IsPermutation, map}
use Rattle.std.specs.Ordering.{int_cmp, on, then_cmp}
use Rattle.std.proofs.lemmas.List.Sorted.{IsPermutation-map}
use Rattle.store_sql.proofs.Staying.{looks_stays}
use Rattle.package_tables.specs.Calls.{AreAll}
use Rattle.identity_register.proofs.Looking.{looked, fails}
use Rattle.package_items.specs.Ties.{name_key}
use Rattle.package_items.proofs.Seen.{told_last}
use Rattle.package_items.proofs.tied.read_names.Goals as goal

pub returns : goal.returns
returns g c =
    let found = c.in_ok-rows.rows.items in
    told_last (λ t names. IsPermutation (map name_key t.identities) names.items)
    (looked (λ t x. AreAll (then_cmp (on (λ r. r.kind) int_cmp) (on (λ r. r.local_id) int_cmp)) t.identities
    x.items) c.in_ok-rows.was c.all_identities.ensures) c.names_of.result c.names_of.ensures
    (λ t names all is. subst (IsPermutation (map name_key t.identities)) (sym is)
    (IsPermutation-map name_key t.identities found all.0))

-- a look that failed leaves the store as it was too
pub returns-in_err-rows : goal.returns-in_err-rows
returns-in_err-rows g c = fails c.from_residual.result c.from_residual.ensures.0 (looks_stays c.all_identities.ensures)
