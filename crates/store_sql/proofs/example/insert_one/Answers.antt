use Rattle.std.proofs.Common.{rules, to_z-of_z, FitsSigned, w64}
use Rattle.store_sql.proofs.example.insert_one.Goals as goal

pub returns-clause-steps : goal.returns-clause-steps
returns-clause-steps g c =
    let seq : FitsSigned w64 c.args.note.seq = search rules in
    let place : FitsSigned w64 c.args.note.place = search rules in
    simp (to_z-of_z, seq, place) at c.insert_note.ensures.steps
