-- One row more has its item.
use Rattle.std.proofs.Common.{◌≤◌, length, arith, [], ap, subst, sym, is_ok}
use Rattle.std.specs.List.{AllZip}
use Rattle.std.proofs.ResultArms.{chosen}
use Rattle.std.proofs.lemmas.List.{take_all}
use Rattle.sqlite.specs.Held.{state}
use Rattle.store_sql.proofs.Staying.{looks_stays, stays_then}
use Rattle.package_tables.specs.Package.{tables_of}
use Rattle.identity_register.specs.Gathered.{IsReadOf}
use Rattle.identity_register.proofs.Gathering.{zip_more}
use Rattle.identity_register.proofs.Reaching.{stays_itself, goes_from, goes_on}
use Rattle.identity_register.proofs.one_by_one.items_of.Goals as goal

pub loop-row-init : goal.loop-row-init
loop-row-init g c =
    goes_from (stays_itself g.S.Store g.met.S.Store.shut_if_dirty g.met.S.Store.settled c.args.conn.now c.requires)
    (λ t. subst (AllZip (IsReadOf t) []) (sym c.new-items.ensures.items) tt)

pub loop-row-preserved : goal.loop-row-preserved
loop-row-preserved g c =
    goes_on (λ t item. IsReadOf t c.row-item.result item) c.loop-row.invariant c.in_ok-item_of.was c.item_of.ensures
    (λ t all one. zip_more (IsReadOf t) c.args.rows.now c.loop-row.row-index c.row-item.result
    c.row-item.result c.loop-row.items.items c.push.new.self.items c.in_ok-item_of.field-0 c.loop-row-test.true
    c.row-item.is (chosen _ _ _ _ c.push.ensures.items (ap is_ok c.in_ok-push.was)) all one)

pub item_of-requires : goal.item_of-requires
item_of-requires g c = c.loop-row.invariant.stays.rests

pub returns-in_err-push-clause-stays : goal.returns-in_err-push-clause-stays
returns-in_err-push-clause-stays g c = stays_then c.loop-row.invariant.stays (looks_stays c.item_of.ensures)

pub returns-clause-read : goal.returns-clause-read
returns-clause-read g c = λ clean is_open.
    let all : length c.args.rows.now ≤ c.loop-row.row-index = omega (arith, c.loop-row-test.false) in
    let d = c.loop-row.invariant.told clean is_open in (
      d.0,
      (
        d.1,
        λ formed. subst (λ l. AllZip (IsReadOf (tables_of (state g.S.Store c.args.conn.now).now)) l
            c.loop-row.items.items) (take_all c.loop-row.row-index c.args.rows.now all) (d.2 formed),
      ),
    )
