-- The identity rows that were read are all, so what was read by them is all items and all links.
use Rattle.std.proofs.Common.{sym, subst, IfOk}
use Rattle.std.specs.Prelude.{IsPermutation}
use Rattle.std.specs.List.{AllZip}
use Rattle.std.specs.Ordering.{int_cmp, on, then_cmp}
use Rattle.store_sql.proofs.Staying.{looks_stays, stays_then}
use Rattle.sheet_types.specs.Ordered.{IsArranged}
use Rattle.sheet_types.specs.World.{item_key}
use Rattle.package_tables.specs.Calls.{AreAll}
use Rattle.identity_register.specs.Gathered.{AreLinksBy, IsReadOf}
use Rattle.identity_register.proofs.Looking.{looked, looked_then, sees, fails}
use Rattle.identity_register.proofs.Reaching.{looked_on}
use Rattle.identity_register.proofs.Gathering.{items_read}
use Rattle.identity_register.proofs.one_by_one.holdings_each.Goals as goal

pub returns : goal.returns
returns g c =
    let one = c.deref.result.now in
    let two = c.deref-2.result.now in
    let made = c.in_ok-items.items.items in
    sees (looked_then (λ t found. AreLinksBy two t found.items)
    (looked_on (λ t items. AllZip (IsReadOf t) one items.items)
    (looked (λ t found. AreAll (then_cmp (on (λ x. x.kind) int_cmp) (on (λ x. x.local_id) int_cmp)) t.identities
    found.items) c.in_ok-rows.was c.all_identities.ensures) c.in_ok-items.was c.items_of.ensures.stays
    c.items_of.ensures.read)
    c.in_ok-links.was c.links_by.ensures)
    (λ f p t says h.
    let all : IsPermutation t.identities one = subst (IsPermutation t.identities) (sym c.deref.ensures.value) h.0.0.0 in
    let same = subst (λ r. IfOk r (λ sorted. IsPermutation made sorted.items)) c.in_ok-items-2.was
    c.items_in_order.ensures.same in
    let order = subst (λ r. IfOk r (λ sorted. IsArranged item_key sorted.items)) c.in_ok-items-2.was
    c.items_in_order.ensures.order in (
      items_read f p t says one made c.in_ok-items-2.items.items all h.0.1 same order,
      h.1 f p says (subst (IsPermutation t.identities) (sym c.deref-2.ensures.value) h.0.0.0),
    ))

pub returns-in_err-links : goal.returns-in_err-links
returns-in_err-links g c = fails c.from_residual-in_err-links.result c.from_residual-in_err-links.ensures.0
    (stays_then (stays_then (looks_stays c.all_identities.ensures) c.items_of.ensures.stays)
    (looks_stays c.links_by.ensures))

pub returns-in_err-items-2 : goal.returns-in_err-items-2
returns-in_err-items-2 g c = fails c.from_residual-in_err-items-2.result c.from_residual-in_err-items-2.ensures.0
    (stays_then (stays_then (looks_stays c.all_identities.ensures) c.items_of.ensures.stays)
    (looks_stays c.links_by.ensures))
