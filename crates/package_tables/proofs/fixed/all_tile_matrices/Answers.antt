use Rattle.std.proofs.Common.{refl}
use Rattle.package_tables.proofs.Looking.{looks_in_order}
use Rattle.package_tables.proofs.FixedStatements.{tile_matrix_known, all_tile_matrices, all_tile_matrices_ranked}
use Rattle.package_tables.proofs.fixed.all_tile_matrices.Goals as goal

pub returns : goal.returns
returns g c =
    let e = c.query_all.ensures in
    looks_in_order tile_matrix_known all_tile_matrices (λ rows. rows.items) _ refl g.S.Store
    g.met.S.Store.shut_if_dirty g.met.S.Store.settled
    c.args.conn.now c.query_all.new.self c.requires c.query_all.result e.ok e.err e.mode e.survives (λ x. refl)
    all_tile_matrices_ranked (λ found. found.items) c.all_of.result c.all_of.ensures.values
