use Rattle.std.proofs.Common.{refl, to_z-of_z}
use Rattle.store_sql.proofs.Answering.{asked_looks}
use Rattle.store_sql.proofs.Notes.{numbers}
use Rattle.store_sql.proofs.example.numbers_of_place.Goals as goal

pub returns : goal.returns
returns g c =
    let e = simp (to_z-of_z, c.ranges.place) at (rw c.params-to_sql.ensures at c.query_all.ensures) in
    record {
      looks = asked_looks numbers _ refl _ (λ spelling. refl) g.S.Store g.met.S.Store.shut_if_dirty
          g.met.S.Store.settled (λ rows. rows.items) c.args.conn.now c.query_all.new.self c.requires c.query_all.result
          e.ok e.err e.mode e.survives;
    }
