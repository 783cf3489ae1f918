use Rattle.std.proofs.Common.{to_z-of_z}
use Rattle.identity_register.proofs.Dropping.{rows_steps}
use Rattle.identity_register.proofs.changes.drop_rows.Goals as goal

pub returns-clause-steps : goal.returns-clause-steps
returns-clause-steps g c =
    rows_steps c.args.kind c.args.number (simp (to_z-of_z, c.ranges.kind, c.ranges.number) at
    c.in_ok-drop_content.ensures.steps) (simp (to_z-of_z, c.ranges.kind, c.ranges.number) at
    c.delete_identity.ensures.wrote) c.delete_identity.ensures.survives
