-- The relations of a base and the names of their other ends are its links.
use Rattle.std.proofs.Common.{ℕ, List, ◌≡◌, ◌∙◌, ap, subst, sym, map, pos, IfOk, rules}
use Rattle.sheet_types.specs.declared.command.Relation.{Relation}
use mir.Syntax.{w64}
use mir.Val.{SFits}
use Rattle.std.specs.List.{AllZip}
use Rattle.std.specs.Ordering.{int_eq}
use Rattle.std.proofs.lemmas.Int.{to_z-of_z}
use Rattle.store_sql.proofs.Staying.{looks_stays, stays_then}
use Rattle.sheet_types.specs.World.{kind_number, base_kind, other_kind}
use Rattle.package_tables.specs.Calls.{AreThose}
use Rattle.package_tables.specs.Mappings.{mapping_rows}
use Rattle.identity_register.specs.Gathered.{IsNamed}
use Rattle.identity_register.specs.Reach.{AreLinksAt}
use Rattle.identity_register.proofs.Gathering.{tells_if}
use Rattle.identity_register.proofs.Looking.{looked, fails}
use Rattle.identity_register.proofs.Reaching.{looked_on, made_from}
use Rattle.identity_register.proofs.reach.links_at_base.Goals as goal

pub returns-in_err-numbers : goal.returns-in_err-numbers
returns-in_err-numbers g c = fails c.from_residual-in_err-numbers.result c.from_residual-in_err-numbers.ensures.0
    (looks_stays c.pairs_of_base.ensures)

pub returns-in_err-others : goal.returns-in_err-others
returns-in_err-others g c = fails c.from_residual-in_err-others.result c.from_residual-in_err-others.ensures.0
    (stays_then (looks_stays c.pairs_of_base.ensures) c.names_of.ensures.stays)

pub returns : goal.returns
returns g c =
    let number = c.ranges.number in
    let m = c.args.mapping in
    let id = c.args.identity in
    let pairs = c.in_ok-pairs.pairs.items in
    let names = c.in_ok-others.others.items in
    let kind : c.number_of_kind-kind.result ≡ pos (kind_number (other_kind m)) =
    c.number_of_kind-kind.ensures ∙ ap (λ k. pos (kind_number k)) c.other_kind.ensures in
    let fits : SFits w64 c.number_of_kind-kind.result = search rules in
    let numbers : c.deref-2.result.now ≡ map (λ r. r.related_id) pairs =
    c.deref-2.ensures.value ∙ c.in_ok-numbers.ensures ∙ ap (map (λ r. r.related_id)) c.deref.ensures.value in
    tells_if (λ t links. AreLinksAt m (pos (kind_number (base_kind m))) c.args.number id t links.items)
    c.links_from.result
    (looked_on (λ t found. AllZip (IsNamed t.identities c.number_of_kind-kind.result) c.deref-2.result.now
    found.items) (looked (λ t found. AreThose (λ r. int_eq r.base_id c.args.number) (mapping_rows m t)
    found.items) c.in_ok-pairs.was (simp to_z-of_z at c.pairs_of_base.ensures)) c.in_ok-others.was
    c.names_of.ensures.stays (simp to_z-of_z at c.names_of.ensures.told))
    (λ links e t h.
    let all : AllZip (IsNamed t.identities (pos (kind_number (other_kind m)))) (map (λ r. r.related_id) pairs) names =
    subst (λ k. AllZip (IsNamed t.identities k) (map (λ r. r.related_id) pairs) names) kind
    (subst (λ l. AllZip (IsNamed t.identities c.number_of_kind-kind.result) l names) numbers h.1) in
    let each : List ℕ → Relation = λ x. record { mapping = m; base = id; other = x } in
    let are : links.items ≡ map each names = subst (λ r. IfOk r
    (λ links. links.items ≡ map each c.deref-3.result.now)) e c.links_from.ensures
    ∙ ap (map each) c.deref-3.ensures.value in
    subst (AreLinksAt m (pos (kind_number (base_kind m))) c.args.number id t) (sym are)
    (made_from m c.args.number id t pairs names h.0 all))
