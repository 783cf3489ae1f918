use Rattle.std.proofs.Common.{refl, to_z-of_z}
use Rattle.sqlite.specs.Held.{state}
use Rattle.store_sql.specs.Notes.{note_table}
use Rattle.store_sql.proofs.Answering.{found_steps}
use Rattle.store_sql.proofs.Notes.{by_newest, in_place_below, before_text, before_plan}
use Rattle.store_sql.proofs.example.read_before.Goals as goal

pub returns-clause-steps : goal.returns-clause-steps
returns-clause-steps g c =
    let e = simp (to_z-of_z, c.ranges.place, c.ranges.seq) at
    (rw (c.params-to_sql.ensures, c.params-to_sql-2.ensures) at c.query_all.ensures) in
    found_steps _ note_table in_place_below by_newest before_text before_plan _ refl _ (λ spelling. refl)
    (λ rows. rows.items) (state g.S.Store c.args.tx.now.conn.now) (state g.S.Store c.query_all.new.self.conn.now)
    c.query_all.result e.ok e.err e.survives
