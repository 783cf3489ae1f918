use Rattle.std.proofs.Common.{rules, to_z-of_z, FitsSigned, w64}
use Rattle.package_tables.specs.Changes.{Adds}
use Rattle.package_tables.specs.Listed.{moved}
use Rattle.package_tables.proofs.Stepping.{makes_steps}
use Rattle.custody.proofs.homing.put_thing.Goals as goal

pub returns-clause-steps : goal.returns-clause-steps
returns-clause-steps g c =
    let seq : FitsSigned w64 c.args.row.seq = search rules in
    let position : FitsSigned w64 c.args.row.position = search rules in
    let kind : FitsSigned w64 c.args.row.kind = search rules in
    let size : FitsSigned w64 c.args.row.size = search rules in
    makes_steps (Adds moved c.args.row) (simp (to_z-of_z, seq, position, kind, size) at
    (rw (c.as_str.ensures, c.as_str-2.ensures, c.as_str-3.ensures) at c.insert_moved.ensures.wrote))
    c.insert_moved.ensures.survives
