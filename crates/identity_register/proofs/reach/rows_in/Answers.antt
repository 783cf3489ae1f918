-- The names of the rows on the ground, in their order, are those there.
use Rattle.std.proofs.Common.{subst, pos, IfOk, rules}
use mir.Syntax.{w64}
use mir.Val.{SFits}
use Rattle.std.specs.Prelude.{IsPermutation}
use Rattle.std.specs.List.{AllZip}
use Rattle.std.proofs.lemmas.Int.{to_z-of_z}
use Rattle.store_sql.proofs.Staying.{looks_stays, stays_then}
use Rattle.sheet_types.specs.Ordered.{IsArranged}
use Rattle.package_tables.specs.Calls.{AreNumbersOf}
use Rattle.identity_register.specs.Gathered.{IsNamed}
use Rattle.identity_register.proofs.Looking.{looked, fails}
use Rattle.identity_register.proofs.Reaching.{looked_on, sees_if, is_on, rows_are}
use Rattle.identity_register.proofs.reach.rows_in.Goals as goal

pub returns-in_err-names : goal.returns-in_err-names
returns-in_err-names g c = fails c.from_residual-in_err-names.result c.from_residual-in_err-names.ensures.0
    (stays_then (looks_stays c.attribute_ids_within.ensures) c.names_of.ensures.stays)

pub returns : goal.returns
returns g c =
    let west : SFits w64 c.args.ground.now.west = search rules in
    let south : SFits w64 c.args.ground.now.south = search rules in
    let east : SFits w64 c.args.ground.now.east = search rules in
    let north : SFits w64 c.args.ground.now.north = search rules in
    let found = c.in_ok-numbers.numbers.items in
    let names = c.in_ok-names.names.items in
    sees_if c.names_in_order.result
    (looked_on (λ t found. AllZip (IsNamed t.identities (pos 3)) c.deref.result.now found.items)
    (looked (λ t found. AreNumbersOf (λ x. x.id) (is_on c.args.ground.now) t.rows found.items) c.in_ok-numbers.was
    (simp to_z-of_z at c.attribute_ids_within.ensures)) c.in_ok-names.was c.names_of.ensures.stays
    c.names_of.ensures.told)
    (λ sorted e f p t says h. rows_are f p t says c.args.ground.now found names sorted.items h.0
    (subst (λ l. AllZip (IsNamed t.identities (pos 3)) l names) c.deref.ensures.value h.1)
    (subst (λ r. IfOk r (λ sorted. IsPermutation names sorted.items)) e c.names_in_order.ensures.same)
    (subst (λ r. IfOk r (λ sorted. IsArranged (λ id. id) sorted.items)) e c.names_in_order.ensures.order))
