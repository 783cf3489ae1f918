-- The identity rows that were read are all, so what was read by them is all items and all links.
use Rattle.std.proofs.Common.{sym, subst}
use Rattle.std.specs.Prelude.{IsPermutation}
use Rattle.std.specs.Ordering.{int_cmp, on, then_cmp}
use Rattle.store_sql.proofs.Staying.{looks_stays, stays_then}
use Rattle.package_tables.specs.Calls.{AreAll}
use Rattle.identity_register.specs.Gathered.{AreItemsBy, AreLinksBy}
use Rattle.identity_register.proofs.Looking.{looked, looked_then, sees, fails}
use Rattle.identity_register.proofs.whole.holdings.Goals as goal

pub returns-in_err-links : goal.returns-in_err-links
returns-in_err-links g c = fails c.from_residual-in_err-links.result c.from_residual-in_err-links.ensures.0
    (stays_then (stays_then (looks_stays c.all_identities.ensures) (looks_stays c.items_by.ensures))
    (looks_stays c.links_by.ensures))

pub returns : goal.returns
returns g c =
    let one = c.deref.result.now in
    let two = c.deref-2.result.now in
    sees (looked_then (λ t found. AreLinksBy two t found.items)
    (looked_then (λ t found. AreItemsBy one t found.items) (looked
    (λ t found. AreAll (then_cmp (on (λ x. x.kind) int_cmp) (on (λ x. x.local_id) int_cmp)) t.identities
    found.items) c.in_ok-rows.was c.all_identities.ensures) c.in_ok-items.was c.items_by.ensures)
    c.in_ok-links.was c.links_by.ensures)
    (λ f p t says h. (
      h.0.1 f p says (subst (IsPermutation t.identities) (sym c.deref.ensures.value) h.0.0.0),
      h.1 f p
          says (subst (IsPermutation t.identities) (sym c.deref-2.ensures.value) h.0.0.0),
    ))
