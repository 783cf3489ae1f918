use Rattle.std.proofs.Common.{refl, to_z-of_z}
use Rattle.sqlite.specs.Held.{state}
use Rattle.store_sql.specs.Reading.{equals}
use Rattle.store_sql.specs.Notes.{note_table}
use Rattle.store_sql.proofs.First.{first_steps}
use Rattle.store_sql.proofs.Transactions.{unanswered_by}
use Rattle.store_sql.proofs.Notes.{by_newest, newest_text, newest_plan}
use Rattle.store_sql.proofs.example.newest_note.Goals as goal

pub returns-clause-steps : goal.returns-clause-steps
returns-clause-steps g c =
    let e = simp (to_z-of_z, c.ranges.place) at (rw c.params-to_sql.ensures at c.query_all.ensures) in
    first_steps _ note_table (equals 1 0) by_newest newest_text newest_plan _ refl _ (λ spelling. refl)
    (λ rows. rows.items) (state g.S.Store c.args.tx.now.conn.now) (state g.S.Store c.query_all.new.self.conn.now)
    c.query_all.result e.ok e.err e.survives

pub returns-clause-excused : goal.returns-clause-excused
returns-clause-excused g c =
    let e = simp (to_z-of_z, c.ranges.place) at (rw c.params-to_sql.ensures at c.query_all.ensures) in
    unanswered_by _ _ (state g.S.Store c.args.tx.now.conn.now) (state g.S.Store c.query_all.new.self.conn.now)
    c.query_all.result e.err
