use Rattle.std.proofs.Common.{rules, to_z-of_z, FitsSigned, w64}
use Rattle.package_tables.specs.Changes.{Adds}
use Rattle.package_tables.specs.Listed.{identities}
use Rattle.package_tables.proofs.Stepping.{makes_steps}
use Rattle.package_copy.proofs.entering.IdentityRowEntered.enter.Goals as goal

pub returns-clause-steps : goal.returns-clause-steps
returns-clause-steps g c =
    let row = c.args.self.now in
    let kind : FitsSigned w64 row.kind = search rules in
    let local_id : FitsSigned w64 row.local_id = search rules in
    makes_steps (Adds identities row)
    (simp (to_z-of_z, kind, local_id) at (rw c.as_str.ensures at c.insert_identity.ensures.wrote))
    c.insert_identity.ensures.survives
