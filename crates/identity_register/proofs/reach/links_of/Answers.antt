-- The links at the row of the item, of the two mappings of its kind, are its links.
use Rattle.std.proofs.Common.{◌≡◌, ◌∙◌, ap, subst, IfOk, Ok, rules, is_ok}
use mir.Syntax.{w64}
use mir.Val.{SFits}
use Rattle.std.specs.Prelude.{◌++◌, IsPermutation}
use Rattle.std.proofs.ResultArms.{chosen}
use Rattle.std.proofs.lemmas.Int.{to_z-of_z}
use Rattle.store_sql.proofs.Staying.{looks_stays, stays_then}
use Rattle.sheet_types.specs.Ordered.{IsArranged}
use Rattle.sheet_types.specs.World.{link_key}
use Rattle.identity_register.specs.Answers.{AreMappingsOf}
use Rattle.identity_register.specs.Reach.{AreLinksAt}
use Rattle.identity_register.proofs.Answering.{IsRowFor}
use Rattle.identity_register.proofs.Ends.{first_end, second_end}
use Rattle.identity_register.proofs.Looking.{looked, looked_then, sees, fails}
use Rattle.identity_register.proofs.Reaching.{sees_if, no_links, links_by_row}
use Rattle.identity_register.proofs.reach.links_of.Goals as goal

pub returns-in_default : goal.returns-in_default
returns-in_default g c =
    sees (looked (IsRowFor c.args.identity) (c.in_ok-row.was ∙ ap Ok c.in_default.is) c.row_of.ensures.looked)
    (λ f p t says none. c.new.ensures.items ∙ no_links f p t says c.args.identity none)

pub returns-in_err-one : goal.returns-in_err-one
returns-in_err-one g c = fails c.from_residual-in_err-one.result c.from_residual-in_err-one.ensures.0
    (looks_stays c.row_of.ensures.looked)

pub returns-in_err-links : goal.returns-in_err-links
returns-in_err-links g c = fails c.from_residual-in_err-links.result c.from_residual-in_err-links.ensures.0
    (stays_then (looks_stays c.row_of.ensures.looked) (looks_stays c.links_at.ensures))

pub returns-in_err-more : goal.returns-in_err-more
returns-in_err-more g c = fails c.from_residual-in_err-more.result c.from_residual-in_err-more.ensures.0
    (stays_then (stays_then (looks_stays c.row_of.ensures.looked) (looks_stays c.links_at.ensures))
    (looks_stays c.links_at-2.ensures))

pub returns-in_err-extend_from_slice : goal.returns-in_err-extend_from_slice
returns-in_err-extend_from_slice g c =
    fails c.from_residual-in_err-extend_from_slice.result c.from_residual-in_err-extend_from_slice.ensures.0
    (stays_then (stays_then (looks_stays c.row_of.ensures.looked) (looks_stays c.links_at.ensures))
    (looks_stays c.links_at-2.ensures))

pub returns : goal.returns
returns g c =
    let id = c.args.identity in
    let row = c.in-Some.row in
    let one = c.in_ok-one.one in
    let another = c.in_ok-one.another in
    let kind : SFits w64 row.kind = search rules in
    let number : SFits w64 row.local_id = search rules in
    let are : AreMappingsOf row.kind one another = simp to_z-of_z at c.in_ok-one.ensures in
    let first = c.in_ok-links.links.items in
    let second = c.in_ok-more.more.items in
    let both : c.extend_from_slice.new.self.items ≡ first ++ second =
    chosen _ _ _ _ c.extend_from_slice.ensures.items (ap is_ok c.in_ok-extend_from_slice.was)
    ∙ ap (λ l. first ++ l) c.deref.ensures.value in
    sees_if c.links_in_order.result
    (looked_then (λ t found. AreLinksAt another row.kind row.local_id id t found.items)
    (looked_then (λ t found. AreLinksAt one row.kind row.local_id id t found.items)
    (looked (IsRowFor id) (c.in_ok-row.was ∙ ap Ok c.in-Some.is) c.row_of.ensures.looked) c.in_ok-links.was
    (simp to_z-of_z at c.links_at.ensures)) c.in_ok-more.was (simp to_z-of_z at c.links_at-2.ensures))
    (λ sorted e f p t says h. links_by_row f p t says id c.row_of.ensures.fit row h.0.0 one another first second
    sorted.items are h.0.1 h.1
    (subst (λ l. IsPermutation l sorted.items) both (subst (λ r. IfOk r
    (λ sorted. IsPermutation c.extend_from_slice.new.self.items sorted.items)) e c.links_in_order.ensures.same))
    (subst (λ r. IfOk r (λ sorted. IsArranged link_key sorted.items)) e c.links_in_order.ensures.order))

pub links_at-requires-clause-end : goal.links_at-requires-clause-end
links_at-requires-clause-end g c =
    let kind : SFits w64 c.in-Some.row.kind = search rules in
    let are : AreMappingsOf c.in-Some.row.kind c.in_ok-one.one c.in_ok-one.another =
    simp to_z-of_z at c.in_ok-one.ensures in
    simp to_z-of_z (first_end c.in-Some.row.kind c.in_ok-one.one c.in_ok-one.another are)

pub links_at-requires-2-clause-end : goal.links_at-requires-2-clause-end
links_at-requires-2-clause-end g c =
    let kind : SFits w64 c.in-Some.row.kind = search rules in
    let are : AreMappingsOf c.in-Some.row.kind c.in_ok-one.one c.in_ok-one.another =
    simp to_z-of_z at c.in_ok-one.ensures in
    simp to_z-of_z (second_end c.in-Some.row.kind c.in_ok-one.one c.in_ok-one.another are)
