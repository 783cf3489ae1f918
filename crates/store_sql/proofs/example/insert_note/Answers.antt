use Rattle.std.proofs.Common.{to_z-of_z}
use Rattle.sqlite.specs.Held.{state}
use Rattle.store_sql.specs.Notes.{note_table, AddsNote}
use Rattle.store_sql.proofs.Insert.{inserted_inside}
use Rattle.store_sql.proofs.Transactions.{write_steps, excused_by}
use Rattle.store_sql.proofs.Notes.{insert_text, insert_row}
use Rattle.store_sql.proofs.example.insert_note.Goals as goal

pub returns-clause-steps : goal.returns-clause-steps
returns-clause-steps g c =
    let a = c.args in
    let old = state g.S.Store a.tx.now.conn.now in
    let new = state g.S.Store c.execute.new.self.conn.now in
    write_steps (AddsNote a.seq a.place a.text.now) old new c.execute.result
    (λ clean begun. inserted_inside _ note_table insert_text _ _ (insert_row a.seq a.place a.text.now) old new
    c.execute.result
    (simp (to_z-of_z, c.ranges.seq, c.ranges.place) at (rw (
      c.params-to_sql.ensures,
      c.params-to_sql-2.ensures,
      c.params-to_sql-3.ensures,
    ) at (c.execute.ensures.runs clean begun))))
    c.execute.ensures.survives

pub returns-clause-excused : goal.returns-clause-excused
returns-clause-excused g c =
    excused_by _ _ (state g.S.Store c.args.tx.now.conn.now) (state g.S.Store c.execute.new.self.conn.now)
    c.execute.result
    (λ clean begun. simp (to_z-of_z, c.ranges.seq, c.ranges.place) at
    (rw (c.params-to_sql.ensures, c.params-to_sql-2.ensures, c.params-to_sql-3.ensures) at
    (c.execute.ensures.runs clean begun)))
