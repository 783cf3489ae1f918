-- One number more has its name.
use Rattle.std.proofs.Common.{◌≤◌, take, length, arith, pos, [], ap, subst, sym, is_ok, refl, rules, get_or}
use mir.Syntax.{w64}
use mir.Val.{SFits}
use Rattle.std.specs.List.{AllZip}
use Rattle.std.proofs.ResultArms.{chosen}
use Rattle.std.proofs.lemmas.Int.{to_z-of_z}
use Rattle.std.proofs.lemmas.List.{take_all}
use Rattle.sqlite.specs.Held.{state}
use Rattle.store_sql.proofs.Staying.{looks_stays, stays_then}
use Rattle.package_tables.specs.Package.{tables_of}
use Rattle.identity_register.specs.Gathered.{IsNamed}
use Rattle.identity_register.proofs.Gathering.{zip_more}
use Rattle.identity_register.proofs.Reaching.{GoesOn, stays_itself, goes_from, goes_on}
use Rattle.identity_register.proofs.reach.names_of.Goals as goal

pub loop-number-init : goal.loop-number-init
loop-number-init g c =
    goes_from (stays_itself g.S.Store g.met.S.Store.shut_if_dirty g.met.S.Store.settled c.args.conn.now c.requires)
    (λ t. subst (AllZip (IsNamed t.identities c.args.kind) []) (sym c.new-names.ensures.items) tt)

pub loop-number-preserved : goal.loop-number-preserved
loop-number-preserved g c =
    let kind = c.ranges.kind in
    let number = get_or c.args.numbers.now c.loop-number.number-index (pos 0) in
    let fits : SFits w64 number = search rules in
    simp to_z-of_z (goes_on (λ t id. IsNamed t.identities c.args.kind number id)
    (simp to_z-of_z at c.loop-number.invariant) c.in_ok-name_at.was (simp to_z-of_z at c.name_at.ensures)
    (λ t all one. zip_more (IsNamed t.identities c.args.kind) c.args.numbers.now c.loop-number.number-index (pos 0)
    number c.loop-number.names.items c.push.new.self.items c.in_ok-name_at.field-0 c.loop-number-test.true refl
    (chosen _ _ _ _ c.push.ensures.items (ap is_ok c.in_ok-push.was)) all one))

pub name_at-requires : goal.name_at-requires
name_at-requires g c = c.loop-number.invariant.stays.rests

pub returns-in_err-push-clause-stays : goal.returns-in_err-push-clause-stays
returns-in_err-push-clause-stays g c = stays_then c.loop-number.invariant.stays (looks_stays c.name_at.ensures)

pub returns-clause-told : goal.returns-clause-told
returns-clause-told g c = λ clean is_open.
    let kind = c.ranges.kind in
    let all : length c.args.numbers.now ≤ c.loop-number.number-index = omega (arith, c.loop-number-test.false) in
    let found : GoesOn (λ t. AllZip (IsNamed t.identities c.args.kind)
    (take c.loop-number.number-index c.args.numbers.now) c.loop-number.names.items)
    (state g.S.Store c.args.conn.now) (state g.S.Store c.loop-number.conn) =
    simp to_z-of_z at c.loop-number.invariant in
    let d = found.told clean is_open in (
      d.0,
      (
        d.1,
        λ formed. subst (λ l. AllZip (IsNamed (tables_of (state g.S.Store c.args.conn.now).now).identities
            c.args.kind) l c.loop-number.names.items) (take_all c.loop-number.number-index c.args.numbers.now all)
            (d.2 formed),
      ),
    )
