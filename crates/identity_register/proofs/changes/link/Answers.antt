use Rattle.std.proofs.Common.{rules, to_z-of_z, FitsSigned, w64}
use Rattle.identity_register.proofs.Joining.{link_steps}
use Rattle.identity_register.proofs.changes.link.Goals as goal

pub returns-clause-steps : goal.returns-clause-steps
returns-clause-steps g c =
    let base : FitsSigned w64 c.in_ok-base.field-0.base.local_id = search rules in
    let other : FitsSigned w64 c.in_ok-base.field-0.other.local_id = search rules in
    link_steps c.args.relation c.in_ok-base.field-0 c.in_ok-base.ensures.steps
    (simp (to_z-of_z, base, other) at c.insert_pair.ensures.wrote) c.insert_pair.ensures.survives
