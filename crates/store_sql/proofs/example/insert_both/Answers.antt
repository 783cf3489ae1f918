use Rattle.std.proofs.Common.{to_z-of_z}
use Rattle.store_sql.proofs.Transactions.{steps_then, steps_failed}
use Rattle.store_sql.proofs.example.insert_both.Goals as goal

pub returns-clause-steps : goal.returns-clause-steps
returns-clause-steps g c = steps_then (simp (to_z-of_z, c.ranges.first, c.ranges.place) at
    c.in_ok-insert_note.ensures.steps) (simp (to_z-of_z, c.ranges.second, c.ranges.place) at
    c.insert_note-2.ensures.steps)

pub returns-in_err-insert_note-clause-steps : goal.returns-in_err-insert_note-clause-steps
returns-in_err-insert_note-clause-steps g c = steps_failed _ c.from_residual.ensures.0 c.insert_note.ensures.steps
