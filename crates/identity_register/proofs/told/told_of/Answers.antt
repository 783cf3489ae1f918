-- One row more has what is told of it.
use Rattle.std.proofs.Common.{◌≤◌, length, arith, [], ap, subst, sym, is_ok}
use Rattle.std.specs.List.{AllZip}
use Rattle.std.proofs.ResultArms.{chosen}
use Rattle.std.proofs.lemmas.List.{take_all}
use Rattle.sqlite.specs.Held.{state}
use Rattle.store_sql.proofs.Staying.{looks_stays, stays_then}
use Rattle.package_tables.specs.Package.{tables_of}
use Rattle.identity_register.specs.Told.{IsToldOf}
use Rattle.identity_register.proofs.Gathering.{zip_more}
use Rattle.identity_register.proofs.Reaching.{stays_itself, goes_from, goes_on}
use Rattle.identity_register.proofs.told.told_of.Goals as goal

pub loop-row-init : goal.loop-row-init
loop-row-init g c =
    goes_from (stays_itself g.S.Store g.met.S.Store.shut_if_dirty g.met.S.Store.settled c.args.conn.now c.requires)
    (λ t. subst (AllZip (λ r. IsToldOf r t) []) (sym c.new-told.ensures.items) tt)

pub loop-row-preserved : goal.loop-row-preserved
loop-row-preserved g c =
    goes_on (IsToldOf c.row-item.result) c.loop-row.invariant c.in_ok-told_at.was c.told_at.ensures
    (λ t all one. zip_more (λ r. IsToldOf r t) c.args.rows.now c.loop-row.row-index c.row-item.result
    c.row-item.result c.loop-row.told.items c.push.new.self.items c.in_ok-told_at.field-0 c.loop-row-test.true
    c.row-item.is (chosen _ _ _ _ c.push.ensures.items (ap is_ok c.in_ok-push.was)) all one)

pub told_at-requires : goal.told_at-requires
told_at-requires g c = c.loop-row.invariant.stays.rests

pub returns-in_err-push-clause-stays : goal.returns-in_err-push-clause-stays
returns-in_err-push-clause-stays g c = stays_then c.loop-row.invariant.stays (looks_stays c.told_at.ensures)

pub returns-clause-told : goal.returns-clause-told
returns-clause-told g c = λ clean is_open.
    let all : length c.args.rows.now ≤ c.loop-row.row-index = omega (arith, c.loop-row-test.false) in
    let d = c.loop-row.invariant.told clean is_open in (
      d.0,
      (
        d.1,
        λ formed. subst (λ l. AllZip (λ r. IsToldOf r (tables_of (state g.S.Store c.args.conn.now).now)) l
            c.loop-row.told.items) (take_all c.loop-row.row-index c.args.rows.now all) (d.2 formed),
      ),
    )
