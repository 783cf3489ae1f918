use Rattle.std.proofs.Common.{[]}
use Rattle.sqlite.specs.Held.{state}
use Rattle.store_sql.proofs.Transactions.{write_steps}
use Rattle.store_sql.proofs.Writes.{writes_inside}
use Rattle.package_tables.proofs.Stepping.{settled_steps}
use Rattle.package_v1.specs.TakingBack.{DropsThird}
use Rattle.package_v1.proofs.Dropping.{drop_text}
use Rattle.package_v1.proofs.Reversing.{third_dropped}
use Rattle.package_v1.proofs.statements.drop_third_table.Goals as goal

pub returns-clause-steps : goal.returns-clause-steps
returns-clause-steps g c =
    let old = state g.S.Store c.args.tx.now.conn.now in
    let new = state g.S.Store c.execute.new.self.conn.now in
    settled_steps _ c.drop_count.ensures
    (write_steps DropsThird old new c.execute.result (λ clean begun. writes_inside DropsThird drop_text [] old new
    (third_dropped old new) c.execute.result (c.execute.ensures.runs clean begun)) c.execute.ensures.survives)
