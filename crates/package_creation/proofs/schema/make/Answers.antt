use Rattle.std.proofs.Common.{Ok, Err}
use Rattle.sqlite.specs.Held.{state}
use Rattle.package_creation.proofs.SchemaMakes.{made_inside, make_failed, passed_on}
use Rattle.package_creation.proofs.schema.make.Goals as goal

pub returns-clause-made : goal.returns-clause-made
returns-clause-made g c clean inside =
    made_inside (state g.S.Store c.args.tx.now.conn.now) (state g.S.Store c.execute.new.self.conn.now) c.args.sql.now
    (Ok c.in_ok-execute.field-0) (c.in_ok-execute.ensures.runs clean inside)

pub returns-in_err-execute-clause-failed : goal.returns-in_err-execute-clause-failed
returns-in_err-execute-clause-failed g c clean inside =
    let failed = make_failed (state g.S.Store c.args.tx.now.conn.now) (state g.S.Store c.execute.new.self.conn.now)
    c.args.sql.now c.utf8.sql (Err c.in_err-execute.field-0.0) (c.in_err-execute.ensures.runs clean inside) in
    rw (passed_on c.from_residual.result c.in_err-execute.field-0.0 c.from_residual.ensures.1) failed
