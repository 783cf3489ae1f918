use Rattle.std.proofs.Common.{rules, to_z-of_z, FitsSigned, w64}
use Rattle.identity_register.proofs.Joining.{unlink_steps}
use Rattle.identity_register.proofs.changes.unlink.Goals as goal

pub returns-clause-steps : goal.returns-clause-steps
returns-clause-steps g c =
    let base : FitsSigned w64 c.in_ok-base.field-0.base.local_id = search rules in
    let other : FitsSigned w64 c.in_ok-base.field-0.other.local_id = search rules in
    unlink_steps c.args.relation c.in_ok-base.field-0 c.in_ok-base.ensures.steps
    (simp (to_z-of_z, base, other) at c.delete_pair.ensures.wrote) c.delete_pair.ensures.survives
