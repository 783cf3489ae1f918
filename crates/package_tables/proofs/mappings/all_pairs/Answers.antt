use Rattle.std.proofs.Common.{refl}
use Rattle.package_tables.proofs.Looking.{looks_in_order}
use Rattle.package_tables.proofs.Pairs.{known, all, all_ranked}
use Rattle.package_tables.proofs.mappings.all_pairs.Goals as goal

pub returns : goal.returns
returns g c =
    let m = c.args.mapping in
    let e = rw c.all_text.ensures at c.query_all.ensures in
    looks_in_order (known m) (all m) (λ rows. rows.items) _ refl g.S.Store g.met.S.Store.shut_if_dirty
    g.met.S.Store.settled
    c.args.conn.now c.query_all.new.self c.requires c.query_all.result e.ok e.err e.mode e.survives (λ x. refl)
    (all_ranked m) (λ found. found.items) c.all_of.result c.all_of.ensures.values
