use Rattle.std.proofs.Common.{refl, to_z-of_z}
use Rattle.sqlite_sql.specs.declared.ops.CompareOp.TheVariants.{Ge}
use Rattle.store_sql.specs.Reading.{compares}
use Rattle.store_sql.specs.Notes.{note_table}
use Rattle.store_sql.proofs.Answering.{found_looks}
use Rattle.store_sql.proofs.Notes.{by_number, from_text, from_plan}
use Rattle.store_sql.proofs.example.read_from.Goals as goal

pub returns : goal.returns
returns g c =
    let e = simp (to_z-of_z, c.ranges.seq) at (rw c.params-to_sql.ensures at c.query_all.ensures) in
    record {
      looks = found_looks _ note_table (compares Ge 0 0) by_number from_text from_plan _ refl _
          (λ spelling. refl) g.S.Store g.met.S.Store.shut_if_dirty g.met.S.Store.settled (λ rows. rows.items)
          c.args.conn.now c.query_all.new.self c.requires c.query_all.result e.ok e.err e.mode e.survives;
    }
