use Rattle.std.proofs.Common.{Ok}
use Rattle.sqlite.specs.Held.{state}
use Rattle.sqlite.specs.declared.error.Error.{Error}
use Rattle.store_sql.proofs.Transactions.{steps_failed}
use Rattle.package_tables.specs.Creation.{no_rows, fixed_tables, new_tables, head_of}
use Rattle.package_tables.specs.declared.fault.Fault.{Fault}
use Rattle.package_creation.proofs.Creating.{schema_steps, says_then, head_becomes}
use Rattle.package_creation.proofs.create.fill.Goals as goal

pub returns-clause-steps : goal.returns-clause-steps
returns-clause-steps g c =
    let f = c.args.frame.now in
    let i = c.args.info.now in
    let head = head_of i.package i.parent i.depth i.loan i.created.now in
    let made = c.in_ok-create_schema.ensures in
    let schema = schema_steps {X = Unit {0}} {E = Error} {old = state g.S.Store c.args.tx.now.conn.now}
    {new = state g.S.Store c.create_schema.new.tx.conn.now} {r = Ok tt} made.made made.kept made.survives in
    let fixed = says_then {X = Unit {0}} {Y = Unit {0}} {E = Error} {F = Fault} no_rows (fixed_tables f i.created.now)
    {x = tt} schema c.in_ok-insert_fixed.ensures.steps in
    says_then {X = Unit {0}} {Y = Unit {0}} {E = Fault} {F = Fault} (fixed_tables f i.created.now) (new_tables f head)
    {x = tt} fixed (head_becomes f head c.insert_info.ensures.steps)

pub returns-in_err-create_schema-clause-steps : goal.returns-in_err-create_schema-clause-steps
returns-in_err-create_schema-clause-steps g c =
    let made = c.create_schema.ensures in
    steps_failed {X = Unit {0}} {E = Error} {q = c.create_schema.result} _ c.from_residual.ensures.0
    (schema_steps {X = Unit {0}} {E = Error} {old = state g.S.Store c.args.tx.now.conn.now}
    {new = state g.S.Store c.create_schema.new.tx.conn.now} {r = c.create_schema.result} made.made made.kept
    made.survives)

pub returns-in_err-insert_fixed-clause-steps : goal.returns-in_err-insert_fixed-clause-steps
returns-in_err-insert_fixed-clause-steps g c =
    let f = c.args.frame.now in
    let i = c.args.info.now in
    let made = c.in_ok-create_schema.ensures in
    let schema = schema_steps {X = Unit {0}} {E = Error} {old = state g.S.Store c.args.tx.now.conn.now}
    {new = state g.S.Store c.create_schema.new.tx.conn.now} {r = Ok tt} made.made made.kept made.survives in
    steps_failed {X = Unit {0}} {E = Fault} {q = c.insert_fixed.result} _ c.from_residual-in_err-insert_fixed.ensures.0
    (says_then {X = Unit {0}} {Y = Unit {0}} {E = Error} {F = Fault} no_rows (fixed_tables f i.created.now) {x = tt}
    {r = c.insert_fixed.result} schema c.insert_fixed.ensures.steps)
