use Rattle.std.proofs.Common.{refl, to_z-of_z}
use Rattle.package_tables.proofs.Looking.{looks_one}
use Rattle.package_tables.proofs.Pairs.{known, of_related}
use Rattle.package_tables.proofs.mappings.pair_of_related.Goals as goal

pub returns : goal.returns
returns g c =
    let m = c.args.mapping in
    let e = rw c.of_related_text.ensures at c.query_all.ensures in
    looks_one (known m) (of_related m c.args.related_id) (λ rows. rows.items) _
    (rw (c.params-to_sql.ensures) (simp (to_z-of_z, c.ranges.related_id) refl)) g.S.Store
    g.met.S.Store.shut_if_dirty g.met.S.Store.settled
    c.args.conn.now c.query_all.new.self c.requires c.query_all.result e.ok e.err e.mode e.survives c.first_of.result
    c.first_of.ensures.first
