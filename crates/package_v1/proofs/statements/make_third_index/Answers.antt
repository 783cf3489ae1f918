use Rattle.std.proofs.Common.{[]}
use Rattle.sqlite.specs.Held.{state}
use Rattle.store_sql.proofs.Transactions.{write_steps}
use Rattle.store_sql.proofs.Writes.{writes_inside}
use Rattle.package_tables.proofs.Stepping.{settled_steps}
use Rattle.package_v1.specs.Migrating.{IndexesThird}
use Rattle.package_v1.proofs.Texts.{index_text}
use Rattle.package_v1.proofs.Third.{third_indexed}
use Rattle.package_v1.proofs.statements.make_third_index.Goals as goal

pub returns-clause-steps : goal.returns-clause-steps
returns-clause-steps g c =
    let old = state g.S.Store c.args.tx.now.conn.now in
    let new = state g.S.Store c.execute.new.self.conn.now in
    settled_steps _ c.drop_count.ensures
    (write_steps IndexesThird old new c.execute.result (λ clean begun. writes_inside IndexesThird index_text [] old
    new (third_indexed old new) c.execute.result (c.execute.ensures.runs clean begun)) c.execute.ensures.survives)
