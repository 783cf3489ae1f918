use Rattle.std.proofs.Common.{rules, to_z-of_z, FitsSigned, w64}
use Rattle.identity_register.proofs.Dropping.{item_steps}
use Rattle.identity_register.proofs.changes.delete.Goals as goal

pub returns-clause-steps : goal.returns-clause-steps
returns-clause-steps g c =
    let kind : FitsSigned w64 c.in_ok-row.row.kind = search rules in
    let number : FitsSigned w64 c.in_ok-row.row.local_id = search rules in
    item_steps c.args.identity c.in_ok-row.row c.in_ok-row.ensures.steps
    (simp (to_z-of_z, kind, number) at c.drop_rows.ensures.steps)
