use Rattle.std.proofs.Common.{to_z-of_z, subst, sym, Ok}
use Rattle.sqlite.specs.Held.{state}
use Rattle.store_sql.specs.Transactions.{Steps}
use Rattle.package_tables.specs.Calls.{Answers}
use Rattle.package_tables.specs.declared.fault.Fault.{Fault}
use Rattle.identity_register.specs.Numbering.{IsTaken}
use Rattle.identity_register.proofs.Numbers.{taken_steps}
use Rattle.identity_register.proofs.additions.is_taken.Goals as goal

pub returns-clause-steps : goal.returns-clause-steps
returns-clause-steps g c =
    subst (λ b. Steps {E = Fault} (Answers (IsTaken c.args.kind c.args.number))
    (state g.S.Store c.args.tx.now.conn.now) (state g.S.Store c.identity_by_key_inside.new.tx.conn.now) (Ok b))
    (sym c.is_some.ensures)
    (taken_steps c.args.kind c.args.number c.in_ok-found.found
    (simp (to_z-of_z, c.ranges.kind, c.ranges.number) at c.in_ok-found.ensures.told)
    c.in_ok-found.ensures.survives)
