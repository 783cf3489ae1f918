use Rattle.std.proofs.Common.{rules}
use Rattle.sqlite.specs.Held.{state}
use Rattle.package_creation.proofs.NewPackage.{package_made, package_failed}
use Rattle.package_creation.proofs.schema.create_schema.Goals as goal

pub returns-clause-made : goal.returns-clause-made
returns-clause-made g c clean inside =
    package_made (state g.S.Store c.args.tx.now.conn.now) (state g.S.Store c.make_each.new.tx.conn.now)
    c.make_each.result (c.make_each.ensures.made (search rules) clean inside)

pub returns-clause-failed : goal.returns-clause-failed
returns-clause-failed g c clean inside blank = package_failed (state g.S.Store c.args.tx.now.conn.now)
    (state g.S.Store c.make_each.new.tx.conn.now) c.make_each.result (c.make_each.ensures.failed clean inside) blank
