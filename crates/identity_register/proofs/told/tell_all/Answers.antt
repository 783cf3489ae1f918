-- The identity rows that were read are all, so what was told by them is told of all items and all links.
use Rattle.std.proofs.Common.{◌∙◌, sym, ap, subst, map, IfOk}
use Rattle.std.specs.Prelude.{IsPermutation}
use Rattle.std.specs.List.{AllZip}
use Rattle.std.specs.Ordering.{int_cmp, on, then_cmp}
use Rattle.store_sql.proofs.Staying.{looks_stays, stays_then}
use Rattle.sheet_types.specs.Ordered.{IsArranged}
use Rattle.sheet_types.specs.World.{link_moved, moved_key}
use Rattle.package_tables.specs.Calls.{AreAll}
use Rattle.identity_register.specs.Gathered.{AreLinksBy}
use Rattle.identity_register.specs.Told.{IsToldOf}
use Rattle.identity_register.proofs.Looking.{looked, looked_then, sees, fails}
use Rattle.identity_register.proofs.Reaching.{looked_on}
use Rattle.identity_register.proofs.Telling.{told_are}
use Rattle.identity_register.proofs.told.tell_all.Goals as goal

pub returns : goal.returns
returns g c =
    let one = c.deref.result.now in
    let two = c.deref-2.result.now in
    let made = c.in_ok-items.items.items in
    sees (looked_then (λ t found. AreLinksBy two t found.items)
    (looked_on (λ t told. AllZip (λ r. IsToldOf r t) one told.items)
    (looked (λ t found. AreAll (then_cmp (on (λ x. x.kind) int_cmp) (on (λ x. x.local_id) int_cmp)) t.identities
    found.items) c.in_ok-rows.was c.all_identities.ensures) c.in_ok-items.was c.told_of.ensures.stays
    c.told_of.ensures.told)
    c.in_ok-links.was c.links_by.ensures)
    (λ f p t says h.
    let all : IsPermutation t.identities one = subst (IsPermutation t.identities) (sym c.deref.ensures.value) h.0.0.0 in
    let same = subst (λ r. IfOk r (λ sorted. IsPermutation made sorted.items)) c.in_ok-items-2.was
    c.told_in_order.ensures.same in
    let order = subst (λ r. IfOk r (λ sorted. IsArranged moved_key sorted.items)) c.in_ok-items-2.was
    c.told_in_order.ensures.order in
    let links = h.1 f p says (subst (IsPermutation t.identities) (sym c.deref-2.ensures.value) h.0.0.0) in (
      told_are f p t says one made c.in_ok-items-2.items.items all h.0.1 same order,
      c.in_ok-links-2.ensures
          ∙ ap (map link_moved) (c.deref-3.ensures.value ∙ links),
    ))

pub returns-in_err-links : goal.returns-in_err-links
returns-in_err-links g c = fails c.from_residual-in_err-links.result c.from_residual-in_err-links.ensures.0
    (stays_then (stays_then (looks_stays c.all_identities.ensures) c.told_of.ensures.stays)
    (looks_stays c.links_by.ensures))

pub returns-in_err-items-2 : goal.returns-in_err-items-2
returns-in_err-items-2 g c = fails c.from_residual-in_err-items-2.result c.from_residual-in_err-items-2.ensures.0
    (stays_then (stays_then (looks_stays c.all_identities.ensures) c.told_of.ensures.stays)
    (looks_stays c.links_by.ensures))

pub returns-in_err-links-2 : goal.returns-in_err-links-2
returns-in_err-links-2 g c = fails c.from_residual-in_err-links-2.result c.from_residual-in_err-links-2.ensures.0
    (stays_then (stays_then (looks_stays c.all_identities.ensures) c.told_of.ensures.stays)
    (looks_stays c.links_by.ensures))
